-- The count of pops, and the fronts that were popped and then taken or grown.
use Rattle.std.specs.Prelude.{◌≡◌, ℕ, ◌+◌, min, List, length, Option, None, Some}
use Rattle.terms.specs.Place.{goal_place}
use Rattle.reconstruction.specs.Levelled.{with_held}
use Rattle.partial_terms.specs.Popped.{IsPopped, NoneLost}
use Rattle.partial_terms.specs.Search.{fronts}
use Rattle.reconstruction.specs.Tabled.{seen}
use Rattle.reconstruction.specs.declared.item.Item.{Item}
use Rattle.reconstruction.specs.declared.item.Arena.{Arena}
use Rattle.reconstruction.specs.declared.tables.Tables.{Tables}

-- a count that stays at the greatest number of 64 bits
abbrev pub capped : ℕ → ℕ
capped n = min n 18446744073709551615

-- one, where an item is held
abbrev pub held_many : Option (ℕ × Item) → ℕ
held_many None = 0
held_many (Some q) = 1

-- What was popped is a list of different fronts, each of a term within the weight, and the item that is held.
-- No front that is left begins one of them, and each inhabitant completes a front that is left, or its code was popped.
pub record AreTallied (t : Tables) (a : Arena) (w : ℕ) (held : Option (ℕ × Item)) (items : List (ℕ × Item)) (pops : ℕ) : Type 0 where
  pub popped : List (List ℕ)
  pub counted : pops ≡ capped (length popped + held_many held)
  pub are : IsPopped t.env (goal_place t.env) w popped (fronts (seen a (with_held held items)))
  pub none_lost : NoneLost t.env popped (fronts (seen a (with_held held items)))
