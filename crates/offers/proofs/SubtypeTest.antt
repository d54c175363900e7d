-- The test of subtypes tells the strict subtypes.
use Rattle.std.proofs.Common.{◌≡◌, ◌≢◌, ◌∙◌, ap, sym, subst, refl, rules, tests, ℕ, zero, suc, Bool, true, false, ◌||◌, ◌&&◌, not, ◌==◌, List, [], ◌∷◌, ◌⊎◌, inl, inr, bytes_eq, Option, Some, None, Contains}
use Rattle.std.specs.List.{list_any}
use Rattle.std.proofs.lemmas.Slice.Eq.{bytes_eq-Decides}
use Rattle.graphs.specs.Graph.{edges}
use Rattle.graphs.proofs.Elements.{IsOneOf, one-of, of-one}
use Rattle.type_names.specs.declared.kinds.Base.{Base}
use Rattle.type_names.specs.declared.kinds.Base.TheVariants.{Class}
use Rattle.type_names.specs.declared.kinds.Erased.{Erased}
use Rattle.type_names.specs.Descriptors.{base}
use Rattle.known_classes.specs.Known.{KnownClasses}
use Rattle.name_places.specs.Places.{place_of}
use Rattle.subtyping.specs.Places.{Ancestry, Stands, IsAncestry}
use Rattle.type_names.specs.Names.{object_name}
use Rattle.subtyping.specs.Steps.{cloneable, serializable, wider, IsReference, IsStrictSubtype}
use Rattle.subtyping.specs.Asked.{IsBaseBelow, IsArrayBelow, IsBelowAt}
use Rattle.subtyping.proofs.Laws.{below-mono, below-subtype, subtype-below}
use Rattle.offers.specs.Order.{is_ancestor_at, is_ancestor, is_one_of, is_base_below, is_above_arrays, is_array_below, is_reference, is_below_at, is_below}
use Rattle.offers.proofs.Descriptors.{base-one}

pub same : (a b : List ℕ) → bytes_eq a b ≡ true → a ≡ b
same a b e = (bytes_eq-Decides a b).0 e

pub equal : (a b : List ℕ) → a ≡ b → bytes_eq a b ≡ true
equal a b e = (bytes_eq-Decides a b).1 e

or-cases : (a b : Bool) → (a || b) ≡ true → (a ≡ true) ⊎ (b ≡ true)
or-cases true b e = inl refl
or-cases false b e = inr e

pub or-left : (a b : Bool) → a ≡ true → (a || b) ≡ true
or-left a b e = rw e refl

pub or-right : (a b : Bool) → b ≡ true → (a || b) ≡ true
or-right true b e = refl
or-right false b e = e

both : (a b : Bool) → a ≡ true → b ≡ true → (a && b) ≡ true
both a b e f = rw (e, f) refl

first : (a b : Bool) → (a && b) ≡ true → a ≡ true
first true b e = refl
first false b e = absurd (let h = e in cc)

second : (a b : Bool) → (a && b) ≡ true → b ≡ true
second true b e = e
second false b e = absurd (let h = e in cc)

no-true : false ≡ true → ⊥
no-true e = cc

-- numbers and bases in a list
number-any : (x : ℕ) (ys : List ℕ) → IsOneOf x ys → list_any (λ n. n == x) ys ≡ true
number-any x [] h = absurd h
number-any x (y ∷ ys) (inl e) = or-left (y == x) _ (search (rules, tests, e))
number-any x (y ∷ ys) (inr h) = or-right (y == x) _ (number-any x ys h)

any-number : (x : ℕ) (ys : List ℕ) → list_any (λ n. n == x) ys ≡ true → IsOneOf x ys
any-number x [] e = no-true e
any-number x (y ∷ ys) e = elim (or-cases (y == x) _ e) [ inl h ↦ inl (search (rules, tests, h)) | inr h ↦ inr (any-number x ys h) ]

pub in-any : (x : ℕ) (ys : List ℕ) → Contains ys x → list_any (λ n. n == x) ys ≡ true
in-any x ys h = number-any x ys (one-of x ys h)

pub any-in : (x : ℕ) (ys : List ℕ) → list_any (λ n. n == x) ys ≡ true → Contains ys x
any-in x ys e = of-one x ys (any-number x ys e)

pub base-any : (q : Base) (ps : List Base) → IsOneOf q ps → is_one_of ps q ≡ true
unfolding is_one_of
base-any q [] h = absurd h
base-any q (p ∷ ps) (inl e) = or-left (bytes_eq (base p) (base q)) _ (equal (base p) (base q) (ap base e))
base-any q (p ∷ ps) (inr h) = or-right (bytes_eq (base p) (base q)) _ (base-any q ps h)

any-base : (q : Base) (ps : List Base) → is_one_of ps q ≡ true → IsOneOf q ps
unfolding is_one_of
any-base q [] e = no-true e
any-base q (p ∷ ps) e = elim (or-cases (bytes_eq (base p) (base q)) _ e) [ inl h ↦ inl (base-one p q (same (base p) (base q) h)) | inr h ↦ inr (any-base q ps h) ]

one-any : (q : Base) (ps : List Base) → Contains ps q → is_one_of ps q ≡ true
one-any q ps h = base-any q ps (one-of q ps h)

any-one : (q : Base) (ps : List Base) → is_one_of ps q ≡ true → Contains ps q
any-one q ps e = of-one q ps (any-base q ps e)

-- ancestors
ancestor-by : (s : Ancestry) (a b : List ℕ) (low high : Option ℕ) → place_of s.names a ≡ low → place_of s.names b ≡ high → is_ancestor_at s.rows low high ≡ true → Stands s a b
ancestor-by s a b None high e f h = absurd (no-true h)
ancestor-by s a b (Some low) None e f h = absurd (no-true h)
ancestor-by s a b (Some low) (Some high) e f h = record { low = low; high = high; from = e; to = f; among = any-in high (edges s.rows low) h }

stands-if : (s : Ancestry) (a b : List ℕ) → is_ancestor s a b ≡ true → Stands s a b
unfolding is_ancestor
stands-if s a b h = ancestor-by s a b (place_of s.names a) (place_of s.names b) refl refl h

if-stands : (s : Ancestry) (a b : List ℕ) → Stands s a b → is_ancestor s a b ≡ true
unfolding is_ancestor
if-stands s a b h = rw (h.from, h.to) (in-any h.high (edges s.rows h.low) h.among)

-- types
not-equal : (a b : List ℕ) → not (bytes_eq a b) ≡ true → a ≢ b
not-equal a b e = λ p. no-true (sym (ap not (equal a b p)) ∙ e)

differ : (t : Bool) → (t ≡ true → ⊥) → not t ≡ true
differ true h = absurd (h refl)
differ false h = refl

base-if : (s : Ancestry) (p q : Base) → is_base_below s p q ≡ true → IsBaseBelow (Stands s) p q
base-if s (Class a) (Class b) e = elim (or-cases (is_ancestor s a b) _ e) [
  | inl h ↦ inl (stands-if s a b h)
  | inr h ↦ inr (not-equal a object_name (first _ _ h), same b object_name (second (not (bytes_eq a object_name)) _ h))
]
base-if s p q e = any-one q (wider p) e

if-base : (s : Ancestry) (p q : Base) → IsBaseBelow (Stands s) p q → is_base_below s p q ≡ true
if-base s (Class a) (Class b) (inl h) = or-left (is_ancestor s a b) _ (if-stands s a b h)
if-base s (Class a) (Class b) (inr h) = or-right (is_ancestor s a b) _ (both _ _ (differ (bytes_eq a object_name) (λ e. h.0 (same a object_name e))) (equal b object_name h.1))
if-base s p q h = one-any q (wider p) h

above-if : (s : Ancestry) (q : Base) → is_above_arrays s q ≡ true → (b : List ℕ) × (q ≡ Class b) × (Stands s cloneable b ⊎ Stands s serializable b)
above-if s (Class b) e = (b, refl, elim (or-cases (is_ancestor s cloneable b) _ e) [ inl h ↦ inl (stands-if s cloneable b h) | inr h ↦ inr (stands-if s serializable b h) ])
above-if s q e = absurd (no-true e)

if-above : (s : Ancestry) (b : List ℕ) → (Stands s cloneable b ⊎ Stands s serializable b) → is_above_arrays s (Class b) ≡ true
if-above s b (inl h) = or-left (is_ancestor s cloneable b) _ (if-stands s cloneable b h)
if-above s b (inr h) = or-right (is_ancestor s cloneable b) _ (if-stands s serializable b h)

array-if : (s : Ancestry) (q : Base) → is_array_below s q ≡ true → IsArrayBelow (Stands s) q
array-if s q e = elim (or-cases (is_one_of (Class object_name ∷ Class cloneable ∷ Class serializable ∷ []) q) _ e) [
  | inl h ↦ inl (any-one q _ h)
  | inr h ↦ inr (above-if s q h)
]

if-array : (s : Ancestry) (q : Base) → IsArrayBelow (Stands s) q → is_array_below s q ≡ true
if-array s q (inl h) = or-left (is_one_of (Class object_name ∷ Class cloneable ∷ Class serializable ∷ []) q) _ (one-any q _ h)
if-array s q (inr h) = or-right (is_one_of (Class object_name ∷ Class cloneable ∷ Class serializable ∷ []) q) _ (subst (λ z. is_above_arrays s z ≡ true) (sym h.1) (if-above s h.0 h.2))

reference-if : (n : ℕ) (p : Base) → is_reference n p ≡ true → IsReference n p
reference-if (suc n) p e = tt
reference-if zero (Class name) e = tt
reference-if zero p e = no-true e

if-reference : (n : ℕ) (p : Base) → IsReference n p → is_reference n p ≡ true
if-reference (suc n) p h = refl
if-reference zero (Class name) h = refl
if-reference zero p h = absurd h

below-if : (s : Ancestry) (n : ℕ) (p : Base) (m : ℕ) (q : Base) → is_below_at s n p m q ≡ true → IsBelowAt (Stands s) n p m q
unfolding is_below_at IsBelowAt
below-if s zero p zero q e = base-if s p q e
below-if s zero p (suc m) q e = no-true e
below-if s (suc n) p zero q e = array-if s q e
below-if s (suc n) p (suc m) q e = (reference-if n p (first _ _ e), below-if s n p m q (second (is_reference n p) _ e))

if-below : (s : Ancestry) (n : ℕ) (p : Base) (m : ℕ) (q : Base) → IsBelowAt (Stands s) n p m q → is_below_at s n p m q ≡ true
unfolding is_below_at IsBelowAt
if-below s zero p zero q h = if-base s p q h
if-below s zero p (suc m) q h = absurd h
if-below s (suc n) p zero q h = if-array s q h
if-below s (suc n) p (suc m) q h = both (is_reference n p) _ (if-reference n p h.0) (if-below s n p m q h.1)

pub test-sound : (known : KnownClasses) (s : Ancestry) → IsAncestry known s → (a b : Erased) → is_below s a b ≡ true → IsStrictSubtype known a b
test-sound known s h a b e = below-subtype known a b (below-mono h.sound a.dims a.base b.dims b.base (below-if s a.dims a.base b.dims b.base e))

pub test-complete : (known : KnownClasses) (s : Ancestry) → IsAncestry known s → (a b : Erased) → IsStrictSubtype known a b → is_below s a b ≡ true
test-complete known s h a b p = if-below s a.dims a.base b.dims b.base (below-mono h.complete a.dims a.base b.dims b.base (subtype-below known a b p))

pub same-truth : (a b : Bool) → (a ≡ true → b ≡ true) → (b ≡ true → a ≡ true) → a ≡ b
same-truth true b f g = sym (f refl)
same-truth false true f g = g refl
same-truth false false f g = refl

-- an answer that tells the strict subtypes is the test's
pub test-one : (known : KnownClasses) (s : Ancestry) → IsAncestry known s → (a b : Erased) (t : Bool) → (t ≡ true → IsStrictSubtype known a b) → (IsStrictSubtype known a b → t ≡ true) → t ≡ is_below s a b
test-one known s h a b t f g = same-truth t (is_below s a b) (λ e. test-complete known s h a b (f e)) (λ e. g (test-sound known s h a b e))
