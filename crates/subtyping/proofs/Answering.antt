-- What is below, by the dimensions and by the classes' names.
use Rattle.graphs.proofs.Elements.{none_in}
use Rattle.subtyping.proofs.OfArrays.{OfArrays, of-arrays, arrays-of}
use Rattle.std.proofs.Common.{◌≡◌, ℕ, zero, suc, ◌<◌, List, refl, sym, ap, subst, ◌∙◌, arith, inl, inr, ◌⊎◌, Option, Some, None, Contains}
use Rattle.type_names.specs.declared.kinds.Base.{Base}
use Rattle.type_names.specs.declared.kinds.Base.TheVariants.{Class}
use Rattle.name_places.specs.Places.{place_of}
use Rattle.type_names.specs.Names.{object_name}
use Rattle.subtyping.specs.Steps.{cloneable, serializable, wider, IsReference, IsOfArrays}
use Rattle.subtyping.specs.Asked.{class_name, class_place, IsClassBelow, IsBaseBelow, IsArrayBelow, IsBelowAt}

abbrev Relation : Type 1
Relation = List ℕ → List ℕ → Type 0

-- by names
pub base-widens : (R : Relation) (p q : Base) → class_name p ≡ None → IsBaseBelow R p q → Contains (wider p) q
base-widens R (Class a) q e h = absurd cc
base-widens R p q e h = h

pub widens-base : (R : Relation) (p q : Base) → class_name p ≡ None → Contains (wider p) q → IsBaseBelow R p q
widens-base R (Class a) q e h = absurd cc
widens-base R p q e h = h

pub class-never : {P : Type 0} (R : Relation) (p q : Base) (a : List ℕ) → class_name p ≡ Some a → class_name q ≡ None → IsBaseBelow R p q → P
class-never R (Class x) (Class y) a e f h = absurd cc
class-never R (Class x) q a e f h = none_in q h
class-never R p q a e f h = absurd cc

is-class : (p : Base) (a : List ℕ) → class_name p ≡ Some a → p ≡ Class a
is-class (Class x) a e = cc
is-class p a e = absurd cc

pub class-at : (names : List (List ℕ)) (p : Base) (a : List ℕ) → class_name p ≡ Some a → class_place names p ≡ place_of names a
class-at names p a e = ap (class_place names) (is-class p a e)

pub class-base : (R : Relation) (p q : Base) (a b : List ℕ) → class_name p ≡ Some a → class_name q ≡ Some b → IsClassBelow R a b → IsBaseBelow R p q
class-base R p q a b e f h = subst (λ x. IsBaseBelow R x q) (sym (is-class p a e)) (subst (λ y. IsBaseBelow R (Class a) y) (sym (is-class q b f)) h)

pub base-class : (R : Relation) (p q : Base) (a b : List ℕ) → class_name p ≡ Some a → class_name q ≡ Some b → IsBaseBelow R p q → IsClassBelow R a b
base-class R p q a b e f h = subst (λ y. IsBaseBelow R (Class a) y) (is-class q b f) (subst (λ x. IsBaseBelow R x q) (is-class p a e) h)

-- arrays
array-base : (q : Base) (x : List ℕ) → Class x ≡ q → class_name q ≡ Some x
array-base q x e = ap class_name (sym e)

arrays-name : (q : Base) → OfArrays q → (x : List ℕ) × (class_name q ≡ Some x)
arrays-name q (inl e) = (object_name, array-base q object_name e)
arrays-name q (inr (inl e)) = (cloneable, array-base q cloneable e)
arrays-name q (inr (inr (inl e))) = (serializable, array-base q serializable e)
arrays-name q (inr (inr (inr h))) = absurd h

clash : {P : Type 0} {A : Type 0} (o : Option A) (x : A) → o ≡ Some x → o ≡ None → P
clash None x e f = absurd cc
clash (Some y) x e f = absurd cc

pub array-never : {P : Type 0} (R : Relation) (q : Base) → class_name q ≡ None → IsArrayBelow R q → P
array-never R q e (inl o) = let n = arrays-name q (of-arrays q o) in clash (class_name q) n.0 n.1 e
array-never R q e (inr h) = clash (class_name q) h.0 (ap class_name h.1) e

pub array-of : (R : Relation) (q : Base) (b : List ℕ) → class_name q ≡ Some b → IsOfArrays (Class b) → IsArrayBelow R q
array-of R q b e o = inl (subst IsOfArrays (sym (is-class q b e)) o)

pub array-cloneable : (R : Relation) (q : Base) (b : List ℕ) → class_name q ≡ Some b → R cloneable b → IsArrayBelow R q
array-cloneable R q b e r = inr (b, is-class q b e, inl r)

pub array-serializable : (R : Relation) (q : Base) (b : List ℕ) → class_name q ≡ Some b → R serializable b → IsArrayBelow R q
array-serializable R q b e r = inr (b, is-class q b e, inr r)

same-some : (a b : List ℕ) → Some a ≡ Some b → a ≡ b
same-some a b e = cc

-- one of the three holds
pub array-cases : (R : Relation) (q : Base) (b : List ℕ) → class_name q ≡ Some b → IsArrayBelow R q → IsOfArrays (Class b) ⊎ (R cloneable b ⊎ R serializable b)
array-cases R q b e (inl o) = inl (subst IsOfArrays (is-class q b e) o)
array-cases R q b e (inr h) =
    let same : h.0 ≡ b = same-some h.0 b (sym (ap class_name h.1) ∙ e) in
    inr (subst (λ x. R cloneable x ⊎ R serializable x) same h.2)

-- by dimensions
pub below-less : {P : Type 0} (R : Relation) (n : ℕ) (p : Base) (m : ℕ) (q : Base) → n < m → IsBelowAt R n p m q → P
unfolding IsBelowAt
below-less R zero p zero q l h = absurd (omega (arith, l))
below-less R zero p (suc m) q l h = absurd h
below-less R (suc n) p zero q l h = absurd (omega (arith, l))
below-less R (suc n) p (suc m) q l h = below-less R n p m q (omega (arith, l)) h.1

pub below-array : (R : Relation) (n : ℕ) (p : Base) (m : ℕ) (q : Base) → m < n → IsBelowAt R n p m q → IsArrayBelow R q
unfolding IsBelowAt
below-array R zero p m q l h = absurd (omega (arith, l))
below-array R (suc n) p zero q l h = h
below-array R (suc n) p (suc m) q l h = below-array R n p m q (omega (arith, l)) h.1

of-dims : (n : ℕ) (p : Base) → 0 < n → IsReference n p
of-dims zero p l = absurd (omega (arith, l))
of-dims (suc n) p l = tt

pub array-below : (R : Relation) (n : ℕ) (p : Base) (m : ℕ) (q : Base) → m < n → IsArrayBelow R q → IsBelowAt R n p m q
unfolding IsBelowAt
array-below R zero p m q l h = absurd (omega (arith, l))
array-below R (suc n) p zero q l h = h
array-below R (suc n) p (suc m) q l h = (of-dims n p (omega (arith, l)), array-below R n p m q (omega (arith, l)) h)

same-base : (R : Relation) (n : ℕ) (p q : Base) → IsBelowAt R n p n q → IsBaseBelow R p q
unfolding IsBelowAt
same-base R zero p q h = h
same-base R (suc n) p q h = same-base R n p q h.1

same-reference : (R : Relation) (n : ℕ) (p q : Base) → 0 < n → IsBelowAt R n p n q → IsReference 0 p
unfolding IsBelowAt
same-reference R zero p q l h = absurd (omega (arith, l))
same-reference R (suc zero) p q l h = h.0
same-reference R (suc (suc n)) p q l h = same-reference R (suc n) p q (omega arith) h.1

reference-up : (n : ℕ) (p : Base) → IsReference 0 p → IsReference n p
reference-up zero p r = r
reference-up (suc n) p r = tt

base-same : (R : Relation) (n : ℕ) (p q : Base) → (0 < n → IsReference 0 p) → IsBaseBelow R p q → IsBelowAt R n p n q
unfolding IsBelowAt
base-same R zero p q r h = h
base-same R (suc n) p q r h = (reference-up n p (r (omega arith)), base-same R n p q (λ l. r (omega arith)) h)

pub below-base : (R : Relation) (n : ℕ) (p : Base) (m : ℕ) (q : Base) → n ≡ m → IsBelowAt R n p m q → IsBaseBelow R p q
below-base R n p m q e h = same-base R n p q (subst (λ k. IsBelowAt R n p k q) (sym e) h)

no-reference : {P : Type 0} (p : Base) → class_name p ≡ None → IsReference 0 p → P
no-reference (Class a) e r = absurd cc
no-reference p e r = absurd r

pub never-reference : {P : Type 0} (p : Base) → class_name p ≡ None → IsReference 0 p → P
never-reference p e r = no-reference p e r

other-reference : (p : Base) (o : Option (List ℕ)) → class_name p ≡ o → (o ≡ None → ⊥) → IsReference 0 p
other-reference (Class a) o e n = tt
other-reference p o e n = absurd (n (sym e))

pub some-reference : (p : Base) → (class_name p ≡ None → ⊥) → IsReference 0 p
some-reference p n = other-reference p (class_name p) refl n

pub below-element : (R : Relation) (n : ℕ) (p : Base) (m : ℕ) (q : Base) → n ≡ m → 0 < n → IsBelowAt R n p m q → IsReference 0 p × IsBaseBelow R p q
below-element R n p m q e l h = let k = subst (λ k. IsBelowAt R n p k q) (sym e) h in (same-reference R n p q l k, same-base R n p q k)

pub element-below : (R : Relation) (n : ℕ) (p : Base) (m : ℕ) (q : Base) → n ≡ m → IsReference 0 p × IsBaseBelow R p q → IsBelowAt R n p m q
element-below R n p m q e h = subst (λ k. IsBelowAt R n p k q) e (base-same R n p q (λ l. h.0) h.1)

pub none-below : (R : Relation) (n : ℕ) (p : Base) (m : ℕ) (q : Base) → n ≡ m → n ≡ 0 → IsBaseBelow R p q → IsBelowAt R n p m q
none-below R n p m q e z h = subst (λ k. IsBelowAt R n p k q) e (base-same R n p q (λ l. absurd (omega (arith, l, z))) h)

-- the classes of arrays
pub of-object : (n : List ℕ) → n ≡ object_name → IsOfArrays (Class n)
of-object n e = arrays-of (Class n) (inl (ap Class (sym e)))

pub of-cloneable : (n : List ℕ) → n ≡ cloneable → IsOfArrays (Class n)
of-cloneable n e = arrays-of (Class n) (inr (inl (ap Class (sym e))))

pub of-serializable : (n : List ℕ) → n ≡ serializable → IsOfArrays (Class n)
of-serializable n e = arrays-of (Class n) (inr (inr (inl (ap Class (sym e)))))

one-name : (x n : List ℕ) → Class x ≡ Class n → n ≡ x
one-name x n e = same-some n x (sym (ap class_name e))

last : (n : List ℕ) → (n ≡ object_name → ⊥) → (n ≡ cloneable → ⊥) → OfArrays (Class n) → n ≡ serializable
last n f g (inl e) = absurd (f (one-name object_name n e))
last n f g (inr (inl e)) = absurd (g (one-name cloneable n e))
last n f g (inr (inr (inl e))) = one-name serializable n e
last n f g (inr (inr (inr h))) = absurd h

pub of-last : (n : List ℕ) → (n ≡ object_name → ⊥) → (n ≡ cloneable → ⊥) → IsOfArrays (Class n) → n ≡ serializable
of-last n f g h = last n f g (of-arrays (Class n) h)
