-- Types with the places of their classes among the ancestors.
use Rattle.std.specs.Prelude.{◌≡◌, ℕ, ◌==◌, ◌&&◌, not, if◌then◌else◌, List, map, Option, None}
use Rattle.type_names.specs.declared.kinds.Erased.{Erased}
use Rattle.subtyping.specs.Asked.{class_place}
use Rattle.offers.specs.declared.placed.Placed.{Placed}
use Rattle.offers.specs.Order.{is_array_below}
use Rattle.offers.specs.Views.{Outlook}

-- These are the places of the classes of these types.
abbrev pub ArePlaces : Outlook → List Erased → List (Option ℕ) → Type 0
ArePlaces o types places = places ≡ map (λ t. class_place o.ancestry.names t.base) types

-- The place of a class without dimensions that has no arrays below it: what is below it can be told by places alone.
unfoldable pub head_in : Outlook → Erased → Option ℕ
head_in o t = if t.dims == 0 && not (is_array_below o.ancestry t.base) then class_place o.ancestry.names t.base else None

-- These are the places of those of these types that are such classes.
abbrev pub AreHeads : Outlook → List Erased → List (Option ℕ) → Type 0
AreHeads o types heads = heads ≡ map (head_in o) types

-- Each type has the place of its class, also as such a class.
pub record IsPlaced (o : Outlook) (placed : Placed) : Type 0 where
  pub places : ArePlaces o placed.types placed.places.items
  pub heads : AreHeads o placed.types placed.heads.items
