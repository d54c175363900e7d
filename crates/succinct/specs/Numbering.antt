-- Tables that only grow, so that a number once given keeps its meaning.
use Rattle.std.specs.Prelude.{◌≡◌, ℕ, List, slice_get, Some}

-- what stood at a place stands there still
abbrev pub IsGrown : {X : Type 0} → List X → List X → Type 0
IsGrown {X} old new = (i : ℕ) (x : X) → slice_get old i ≡ Some x → slice_get new i ≡ Some x
