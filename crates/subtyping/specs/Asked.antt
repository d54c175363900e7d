-- What is asked of the ancestors, where `above` says which names stand above which.
use Rattle.std.specs.Prelude.{◌≡◌, ◌≢◌, ℕ, zero, suc, ◌⊎◌, List, Option, Some, None, Contains}
use Rattle.type_names.specs.declared.kinds.Base.{Base}
use Rattle.type_names.specs.declared.kinds.Base.TheVariants.{Class}
use Rattle.type_names.specs.declared.kinds.Erased.{Erased}
use Rattle.name_places.specs.Places.{place_of}
use Rattle.type_names.specs.Names.{object_name}
use Rattle.subtyping.specs.Steps.{cloneable, serializable, wider, IsReference, IsOfArrays}

-- The name of a class.
abbrev pub class_name : Base → Option (List ℕ)
class_name (Class name) = Some name
class_name p = None

-- The place of a class among names; none for a primitive type.
abbrev pub class_place : List (List ℕ) → Base → Option ℕ
class_place names (Class name) = place_of names name
class_place names p = None

-- A class other than Object is below its ancestors and Object.
abbrev pub IsClassBelow : (List ℕ → List ℕ → Type 0) → List ℕ → List ℕ → Type 0
IsClassBelow above a b = above a b ⊎ ((a ≢ object_name) × (b ≡ object_name))

-- Types without dimensions.
abbrev pub IsBaseBelow : (List ℕ → List ℕ → Type 0) → Base → Base → Type 0
IsBaseBelow above (Class a) (Class b) = IsClassBelow above a b
IsBaseBelow above p q = Contains (wider p) q

-- Arrays are below Object, Cloneable, Serializable and what stands above these.
abbrev pub IsArrayBelow : (List ℕ → List ℕ → Type 0) → Base → Type 0
IsArrayBelow above q = IsOfArrays q ⊎ ((b : List ℕ) × (q ≡ Class b) × (above cloneable b ⊎ above serializable b))

-- n dimensions of p are below m dimensions of q.
unfoldable pub IsBelowAt : (List ℕ → List ℕ → Type 0) → ℕ → Base → ℕ → Base → Type 0
IsBelowAt above zero p zero q = IsBaseBelow above p q
IsBelowAt above zero p (suc m) q = ⊥
IsBelowAt above (suc n) p zero q = IsArrayBelow above q
IsBelowAt above (suc n) p (suc m) q = IsReference n p × IsBelowAt above n p m q

-- The type a is below b.
abbrev pub IsBelow : (List ℕ → List ℕ → Type 0) → Erased → Erased → Type 0
IsBelow above a b = IsBelowAt above a.dims a.base b.dims b.base
