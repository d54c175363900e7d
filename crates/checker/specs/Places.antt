-- The place of a type in a set.
use Rattle.std.specs.Prelude.{◌≡◌, ◌≤◌, ◌<◌, ℕ, List, ◌++◌, take, drop, length, get_or}
use Rattle.checker.specs.Floors.{with_type}

-- all before it are lesser, and it isn't
pub record IsPlace (set : List ℕ) (a i : ℕ) : Type 0 where
  pub within : i ≤ length set
  pub before : with_type a set ≡ take i set ++ with_type a (drop i set)
  pub here : (d : ℕ) → i < length set → a ≤ get_or set i d
