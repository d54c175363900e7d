-- A path of direct steps comes to what is asked of the ancestors, and the other way round.
use Rattle.graphs.proofs.Paths.{one-step, step-then, first-step, path-map}
use Rattle.graphs.proofs.Elements.{none_in}
use Rattle.subtyping.proofs.OfArrays.{OfArrays, of-arrays, arrays-of}
use Rattle.graphs.specs.Paths.{IsPathBy, Leads}
use Rattle.std.proofs.Common.{◌≡◌, ◌≢◌, ℕ, zero, suc, List, [], ◌∷◌, map, refl, sym, ap, subst, ◌∙◌, arith, inl, inr, Bool, true, false}
use Rattle.type_names.specs.declared.kinds.Base.{Base}
use Rattle.type_names.specs.declared.kinds.Base.TheVariants.{Class}
use Rattle.type_names.specs.declared.kinds.Erased.{Erased}
use Rattle.known_classes.specs.Known.{KnownClasses}
use Rattle.type_names.specs.Names.{object_name}
use Rattle.subtyping.specs.Steps.{cloneable, serializable, IsSuper, IsSuperStep, IsClassStep, IsBaseStep, IsReference, IsOfArrays, IsStepAt, IsStep, IsStrictSubtype}
use Rattle.subtyping.specs.Asked.{IsClassBelow, IsBaseBelow, IsArrayBelow, IsBelowAt, IsBelow}
use Rattle.subtyping.proofs.Widenings.{wider-more, wider-rank, never-class}

-- a name that is above another by steps to supers
abbrev pub Above : KnownClasses → List ℕ → List ℕ → Type 0
Above known a b = Leads (IsSuperStep known) a b

not-object : (known : KnownClasses) (a b : List ℕ) → Above known a b → a ≢ object_name
not-object known a b p = (first-step (IsSuperStep known) a p.0 b p.1).1.0

-- one step
base-below : (known : KnownClasses) (p q : Base) → IsBaseStep known p q → IsBaseBelow (Above known) p q
base-below known (Class a) (Class b) h = elim h [
  | inl s ↦ inl (one-step (IsSuperStep known) a b s)
  | inr o ↦ inr o
]
base-below known p q h = h

step-below : (known : KnownClasses) (n : ℕ) (p : Base) (m : ℕ) (q : Base) → IsStepAt known n p m q → IsBelowAt (Above known) n p m q
unfolding IsStepAt IsBelowAt
step-below known zero p zero q h = base-below known p q h
step-below known zero p (suc m) q h = absurd h
step-below known (suc n) p zero q h = inl h
step-below known (suc n) p (suc m) q h = (h.0, step-below known n p m q h.1)

-- a step, and then what is below
class-then : (known : KnownClasses) (a b d : List ℕ) → IsClassStep known a b → IsClassBelow (Above known) b d → IsClassBelow (Above known) a d
class-then known a b d (inl s) (inl up) = inl (step-then (IsSuperStep known) a b d s up)
class-then known a b d (inl s) (inr o) = inr (s.0, o.1)
class-then known a b d (inr e) (inl up) = absurd (not-object known b d up e.1)
class-then known a b d (inr e) (inr o) = absurd (o.0 e.1)

base-then : (known : KnownClasses) (p q r : Base) → IsBaseStep known p q → IsBaseBelow (Above known) q r → IsBaseBelow (Above known) p r
base-then known (Class a) (Class b) (Class d) h s = class-then known a b d h s
base-then known (Class a) (Class b) r h s = none_in r s
base-then known (Class a) q r h s = none_in q h
base-then known p (Class b) r h s = never-class p b h
base-then known p q r h s = wider-more p q r h s

class-below : (known : KnownClasses) (x : List ℕ) (r : Base) → IsBaseBelow (Above known) (Class x) r → (d : List ℕ) × (r ≡ Class d) × IsClassBelow (Above known) x d
class-below known x (Class d) h = (d, refl, h)
class-below known x r h = none_in r h

array-by : (known : KnownClasses) (r : Base) (d : List ℕ) → r ≡ Class d → d ≡ object_name → IsArrayBelow (Above known) r
array-by known r d e o = inl (arrays-of r (inl (ap Class (sym o) ∙ sym e)))

array-then-of : (known : KnownClasses) (q r : Base) → OfArrays q → IsBaseBelow (Above known) q r → IsArrayBelow (Above known) r
array-then-of known q r (inl e) s =
    let c = class-below known object_name r (subst (λ x. IsBaseBelow (Above known) x r) (sym e) s) in
    elim c.2 [
      | inl up ↦ absurd (not-object known object_name c.0 up refl)
      | inr o ↦ absurd (o.0 refl)
    ]
array-then-of known q r (inr (inl e)) s =
    let c = class-below known cloneable r (subst (λ x. IsBaseBelow (Above known) x r) (sym e) s) in
    elim c.2 [
      | inl up ↦ inr (c.0, c.1, inl up)
      | inr o ↦ array-by known r c.0 c.1 o.1
    ]
array-then-of known q r (inr (inr (inl e))) s =
    let c = class-below known serializable r (subst (λ x. IsBaseBelow (Above known) x r) (sym e) s) in
    elim c.2 [
      | inl up ↦ inr (c.0, c.1, inr up)
      | inr o ↦ array-by known r c.0 c.1 o.1
    ]
array-then-of known q r (inr (inr (inr h))) s = absurd h

array-then : (known : KnownClasses) (q r : Base) → IsOfArrays q → IsBaseBelow (Above known) q r → IsArrayBelow (Above known) r
array-then known q r h s = array-then-of known q r (of-arrays q h) s

then-below : (known : KnownClasses) (n : ℕ) (p : Base) (m : ℕ) (q : Base) (k : ℕ) (r : Base) → IsStepAt known n p m q → IsBelowAt (Above known) m q k r → IsBelowAt (Above known) n p k r
unfolding IsStepAt IsBelowAt
then-below known zero p zero q zero r h s = base-then known p q r h s
then-below known zero p zero q (suc k) r h s = absurd s
then-below known zero p (suc m) q k r h s = absurd h
then-below known (suc n) p zero q zero r h s = array-then known q r h s
then-below known (suc n) p zero q (suc k) r h s = absurd s
then-below known (suc n) p (suc m) q zero r h s = s
then-below known (suc n) p (suc m) q (suc k) r h s = (h.0, then-below known n p m q k r h.1 s.1)

path-below : (known : KnownClasses) (a : Erased) (via : List Erased) (b : Erased) → IsPathBy (IsStep known) a via b → IsBelow (Above known) a b
unfolding IsPathBy
path-below known a [] b h = step-below known a.dims a.base b.dims b.base h
path-below known a (c ∷ via) b h = then-below known a.dims a.base c.dims c.base b.dims b.base h.0 (path-below known c via b h.1)

pub subtype-below : (known : KnownClasses) (a b : Erased) → IsStrictSubtype known a b → IsBelow (Above known) a b
subtype-below known a b p = path-below known a p.0 b p.1

-- the other way round
type-of : ℕ → Base → Erased
type-of n p = record { dims = n; base = p }

abbrev named : List ℕ → Erased
named a = record { dims = 0; base = Class a }

abbrev array : Erased → Erased
array t = record { dims = suc t.dims; base = t.base }

super-step : (known : KnownClasses) (a b : List ℕ) → IsSuperStep known a b → IsStep known (named a) (named b)
unfolding IsStepAt
super-step known a b h = inl h

class-path : (known : KnownClasses) (a b : List ℕ) → Above known a b → IsStrictSubtype known (named a) (named b)
class-path known a b p = (map named p.0, path-map named (IsSuperStep known) (IsStep known) (super-step known) a p.0 b p.1)

base-step : (known : KnownClasses) (p q : Base) → IsBaseStep known p q → IsStep known (record { dims = 0; base = p }) (record { dims = 0; base = q })
unfolding IsStepAt
base-step known p q h = h

base-path : (known : KnownClasses) (p q : Base) → IsBaseBelow (Above known) p q → IsStrictSubtype known (record { dims = 0; base = p }) (record { dims = 0; base = q })
base-path known (Class a) (Class b) (inl up) = class-path known a b up
base-path known (Class a) (Class b) (inr o) = one-step (IsStep known) (named a) (named b) (base-step known (Class a) (Class b) (inr o))
base-path known p q h = one-step (IsStep known) (record { dims = 0; base = p }) (record { dims = 0; base = q }) (base-step known p q h)

array-step : (known : KnownClasses) (n : ℕ) (p : Base) (q : Base) → IsOfArrays q → IsStep known (record { dims = suc n; base = p }) (record { dims = 0; base = q })
unfolding IsStepAt
array-step known n p q h = h

of-cloneable : IsOfArrays (Class cloneable)
of-cloneable = arrays-of (Class cloneable) (inr (inl refl))

of-serializable : IsOfArrays (Class serializable)
of-serializable = arrays-of (Class serializable) (inr (inr (inl refl)))

above-arrays : (known : KnownClasses) (n : ℕ) (p : Base) (x b : List ℕ) (q : Base) → IsOfArrays (Class x) → Above known x b → q ≡ Class b → IsStrictSubtype known (record { dims = suc n; base = p }) (record { dims = 0; base = q })
above-arrays known n p x b q o up e = subst (λ k. IsStrictSubtype known (record { dims = suc n; base = p }) (record { dims = 0; base = k })) (sym e) (step-then (IsStep known) (record { dims = suc n; base = p }) (named x) (named b) (array-step known n p (Class x) o) (class-path known x b up))

array-path : (known : KnownClasses) (n : ℕ) (p q : Base) → IsArrayBelow (Above known) q → IsStrictSubtype known (record { dims = suc n; base = p }) (record { dims = 0; base = q })
array-path known n p q (inl o) = one-step (IsStep known) (record { dims = suc n; base = p }) (record { dims = 0; base = q }) (array-step known n p q o)
array-path known n p q (inr h) = elim h.2 [
  | inl up ↦ above-arrays known n p cloneable h.0 q of-cloneable up h.1
  | inr up ↦ above-arrays known n p serializable h.0 q of-serializable up h.1
]

base-reference : (known : KnownClasses) (p q : Base) → IsReference 0 p → IsBaseStep known p q → IsReference 0 q
base-reference known (Class a) (Class b) r h = r
base-reference known (Class a) q r h = none_in q h
base-reference known p q r h = absurd r

class-reference : (q : Base) (x : List ℕ) → Class x ≡ q → IsReference 0 q
class-reference q x e = subst (λ k. IsReference 0 k) e tt

array-reference-of : (q : Base) → OfArrays q → IsReference 0 q
array-reference-of q (inl e) = class-reference q object_name e
array-reference-of q (inr (inl e)) = class-reference q cloneable e
array-reference-of q (inr (inr (inl e))) = class-reference q serializable e
array-reference-of q (inr (inr (inr h))) = absurd h

array-reference : (q : Base) → IsOfArrays q → IsReference 0 q
array-reference q h = array-reference-of q (of-arrays q h)

reference-after : (known : KnownClasses) (n : ℕ) (p : Base) (m : ℕ) (q : Base) → IsReference n p → IsStepAt known n p m q → IsReference m q
unfolding IsStepAt
reference-after known zero p zero q r h = base-reference known p q r h
reference-after known zero p (suc m) q r h = tt
reference-after known (suc n) p zero q r h = array-reference q h
reference-after known (suc n) p (suc m) q r h = tt

lifted-step : (known : KnownClasses) (a b : Erased) → IsReference a.dims a.base → IsStep known a b → IsStep known (array a) (array b)
unfolding IsStepAt
lifted-step known a b r h = (r, h)

lifted : (known : KnownClasses) (a : Erased) (via : List Erased) (b : Erased) → IsReference a.dims a.base → IsPathBy (IsStep known) a via b → IsStrictSubtype known (array a) (array b)
unfolding IsPathBy
lifted known a [] b r h = one-step (IsStep known) (array a) (array b) (lifted-step known a b r h)
lifted known a (c ∷ via) b r h = step-then (IsStep known) (array a) (array c) (array b) (lifted-step known a c r h.0) (lifted known c via b (reference-after known a.dims a.base c.dims c.base r h.0) h.1)

below-path : (known : KnownClasses) (n : ℕ) (p : Base) (m : ℕ) (q : Base) → IsBelowAt (Above known) n p m q → IsStrictSubtype known (record { dims = n; base = p }) (record { dims = m; base = q })
unfolding IsBelowAt
below-path known zero p zero q h = base-path known p q h
below-path known zero p (suc m) q h = absurd h
below-path known (suc n) p zero q h = array-path known n p q h
below-path known (suc n) p (suc m) q h =
    let r = below-path known n p m q h.1 in
    lifted known (record { dims = n; base = p }) r.0 (record { dims = m; base = q }) h.0 r.1

pub below-subtype : (known : KnownClasses) (a b : Erased) → IsBelow (Above known) a b → IsStrictSubtype known a b
below-subtype known a b h = below-path known a.dims a.base b.dims b.base h

-- under another relation between names
base-mono : {R T : List ℕ → List ℕ → Type 0} → ((a b : List ℕ) → R a b → T a b) → (p q : Base) → IsBaseBelow R p q → IsBaseBelow T p q
base-mono f (Class a) (Class b) (inl up) = inl (f a b up)
base-mono f (Class a) (Class b) (inr o) = inr o
base-mono f p q h = h

array-mono : {R T : List ℕ → List ℕ → Type 0} → ((a b : List ℕ) → R a b → T a b) → (q : Base) → IsArrayBelow R q → IsArrayBelow T q
array-mono f q (inl o) = inl o
array-mono f q (inr h) = inr (
  h.0,
  h.1,
  elim h.2 [
    | inl up ↦ inl (f cloneable h.0 up)
    | inr up ↦ inr (f serializable h.0 up)
  ],
)

pub below-mono : {R T : List ℕ → List ℕ → Type 0} → ((a b : List ℕ) → R a b → T a b) → (n : ℕ) (p : Base) (m : ℕ) (q : Base) → IsBelowAt R n p m q → IsBelowAt T n p m q
unfolding IsBelowAt
below-mono f zero p zero q h = base-mono f p q h
below-mono f zero p (suc m) q h = absurd h
below-mono f (suc n) p zero q h = array-mono f q h
below-mono f (suc n) p (suc m) q h = (h.0, below-mono f n p m q h.1)

-- no type is below itself
above-supers : (known : KnownClasses) (a : List ℕ) (via : List (List ℕ)) (b : List ℕ) → IsPathBy (IsSuperStep known) a via b → IsPathBy (IsSuper known) a via b
unfolding IsPathBy
above-supers known a [] b h = h.1
above-supers known a (c ∷ via) b h = (h.0.1, above-supers known c via b h.1)

never-path : (known : KnownClasses) (a : List ℕ) (via : List (List ℕ)) → IsPathBy (IsSuperStep known) a via a → ⊥
unfolding IsPathBy
never-path known a [] h = h.2 (one-step (IsSuper known) a a h.1)
never-path known a (c ∷ via) h = h.0.2 (via, above-supers known c via a h.1)

never-class-itself : (known : KnownClasses) (a : List ℕ) → IsClassBelow (Above known) a a → ⊥
never-class-itself known a (inl up) = never-path known a up.0 up.1
never-class-itself known a (inr o) = o.0 o.1

never-base-itself : (known : KnownClasses) (p : Base) → IsBaseBelow (Above known) p p → ⊥
never-base-itself known (Class a) h = never-class-itself known a h
never-base-itself known p h = let r = wider-rank p p h in omega (arith, r.0)

never-at : (known : KnownClasses) (n : ℕ) (p : Base) → IsBelowAt (Above known) n p n p → ⊥
unfolding IsBelowAt
never-at known zero p h = never-base-itself known p h
never-at known (suc n) p h = never-at known n p h.1

-- strict subtypes are a strict order
pub subtype-never : (known : KnownClasses) (a : Erased) → IsStrictSubtype known a a → ⊥
subtype-never known a p = never-at known a.dims a.base (subtype-below known a a p)

path-then : (known : KnownClasses) (a : Erased) (via : List Erased) (b c : Erased) → IsPathBy (IsStep known) a via b → IsStrictSubtype known b c → IsStrictSubtype known a c
unfolding IsPathBy
path-then known a [] b c h p = step-then (IsStep known) a b c h p
path-then known a (d ∷ via) b c h p = step-then (IsStep known) a d c h.0 (path-then known d via b c h.1 p)

pub subtype-then : (known : KnownClasses) (a b c : Erased) → IsStrictSubtype known a b → IsStrictSubtype known b c → IsStrictSubtype known a c
subtype-then known a b c p q = path-then known a p.0 b c p.1 q

pub false-unless : (b : Bool) → (b ≡ true → ⊥) → b ≡ false
false-unless true h = absurd (h refl)
false-unless false h = refl
