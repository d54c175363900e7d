-- The strict subtypes as a test, by the names of the known classes and the ancestors of each.
use Rattle.std.specs.Prelude.{ℕ, zero, suc, Bool, true, false, ◌||◌, ◌&&◌, not, ◌==◌, List, [], ◌∷◌, bytes_eq, Option, Some, None}
use Rattle.std.specs.List.{list_any}
use Rattle.graphs.specs.Graph.{edges}
use Rattle.type_names.specs.declared.kinds.Base.{Base}
use Rattle.type_names.specs.declared.kinds.Base.TheVariants.{Class}
use Rattle.type_names.specs.declared.kinds.Erased.{Erased}
use Rattle.type_names.specs.Descriptors.{base}
use Rattle.name_places.specs.Places.{place_of}
use Rattle.subtyping.specs.Places.{Ancestry}
use Rattle.type_names.specs.Names.{object_name}
use Rattle.subtyping.specs.Steps.{cloneable, serializable, wider}

-- The second name is among the ancestors of the first.
abbrev pub is_ancestor_at : List (List ℕ) → Option ℕ → Option ℕ → Bool
is_ancestor_at rows None high = false
is_ancestor_at rows (Some low) None = false
is_ancestor_at rows (Some low) (Some high) = list_any (λ n. n == high) (edges rows low)

unfoldable pub is_ancestor : Ancestry → List ℕ → List ℕ → Bool
is_ancestor s a b = is_ancestor_at s.rows (place_of s.names a) (place_of s.names b)

-- A type without dimensions is one of these.
unfoldable pub is_one_of : List Base → Base → Bool
is_one_of ps q = list_any (λ p. bytes_eq (base p) (base q)) ps

-- A class other than Object is below its ancestors and Object; a primitive type is below what it widens to.
abbrev pub is_base_below : Ancestry → Base → Base → Bool
is_base_below s (Class a) (Class b) = is_ancestor s a b || (not (bytes_eq a object_name) && bytes_eq b object_name)
is_base_below s p q = is_one_of (wider p) q

-- Arrays are below Object, Cloneable, Serializable and what stands above these.
abbrev pub is_above_arrays : Ancestry → Base → Bool
is_above_arrays s (Class b) = is_ancestor s cloneable b || is_ancestor s serializable b
is_above_arrays s q = false

abbrev pub is_array_below : Ancestry → Base → Bool
is_array_below s q = is_one_of (Class object_name ∷ Class cloneable ∷ Class serializable ∷ []) q || is_above_arrays s q

abbrev pub is_reference : ℕ → Base → Bool
is_reference (suc n) p = true
is_reference zero (Class name) = true
is_reference zero p = false

-- n dimensions of p are below m dimensions of q.
unfoldable pub is_below_at : Ancestry → ℕ → Base → ℕ → Base → Bool
is_below_at s zero p zero q = is_base_below s p q
is_below_at s zero p (suc m) q = false
is_below_at s (suc n) p zero q = is_array_below s q
is_below_at s (suc n) p (suc m) q = is_reference n p && is_below_at s n p m q

-- The type a is a strict subtype of b.
abbrev pub is_below : Ancestry → Erased → Erased → Bool
is_below s a b = is_below_at s a.dims a.base b.dims b.base
