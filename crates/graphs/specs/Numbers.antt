-- Numbers of nodes that don't rise along an edge.
use Rattle.std.specs.Prelude.{ℕ, ◌≤◌, Bool, true, false, List, [], ◌∷◌, get_or, cond, nat_lt, Contains}
use Rattle.graphs.specs.Graph.{edges}

-- The number of a node, 0 where there is none.
abbrev pub number_of : List ℕ → ℕ → ℕ
number_of numbers a = get_or numbers a 0

-- Whether each of these nodes has a number below the bound.
unfoldable pub all_below : List ℕ → ℕ → List ℕ → Bool
all_below numbers bound [] = true
all_below numbers bound (b ∷ bs) = cond (nat_lt (number_of numbers b) bound) (all_below numbers bound bs) false

-- No edge leads to a higher number.
abbrev pub NeverRises : List (List ℕ) → List ℕ → Type 0
NeverRises graph numbers = (a b : ℕ) → Contains (edges graph a) b → number_of numbers b ≤ number_of numbers a
