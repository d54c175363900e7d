-- The pairs of types of which one is below the other.
use Rattle.std.specs.Prelude.{ℕ, zero, suc, Bool, if◌then◌else◌, List, [], ◌∷◌, ◌++◌}

-- the pairs of a with the numbers below n, in order
unfoldable pub row_of : (ℕ → ℕ → Bool) → ℕ → ℕ → List (ℕ × ℕ)
row_of below a zero = []
row_of below a (suc n) = row_of below a n ++ (if below a n then (a, n) ∷ [] else [])

unfoldable pub rows_of : ℕ → (ℕ → ℕ → Bool) → ℕ → List (ℕ × ℕ)
rows_of n below zero = []
rows_of n below (suc m) = rows_of n below m ++ row_of below m n

-- all pairs among n types, in rising order
abbrev pub pairs_of : ℕ → (ℕ → ℕ → Bool) → List (ℕ × ℕ)
pairs_of n below = rows_of n below n
