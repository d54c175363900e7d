-- Matching brackets, by how often the two signs stand.
use Rattle.std.specs.Prelude.{◌≡◌, ◌≢◌, ◌<◌, ◌≤◌, ℕ, true, List, length, take}
use Rattle.std.specs.List.{count_by}
use Rattle.java_units.specs.Signs.{Sign, is}
use Rattle.java_units.specs.Forms.{begins, matched}

-- The first n signs begin with the left one and end with the right one that matches it: both stand equally
-- often there, and at no place between them have as many been closed as were opened.
pub record IsMatched (left right : List ℕ) (ss : List Sign) (n : ℕ) : Type 0 where
  pub some : 0 < n
  pub opens : begins left ss ≡ true
  pub within : n ≤ length ss
  pub even : count_by (is left) (take n ss) ≡ count_by (is right) (take n ss)
  pub between : (k : ℕ) → 0 < k → k < n → count_by (is right) (take k ss) < count_by (is left) (take k ss)

-- A bracketed form takes just these signs, where there are such ones, and else none.
abbrev pub BracketsMatch : Type 0
BracketsMatch = (left right : List ℕ) (ss : List Sign) (n : ℕ) → left ≢ right →
    (0 < n → matched left right ss ≡ n → IsMatched left right ss n) × (IsMatched left right ss n → matched left right ss ≡ n)
