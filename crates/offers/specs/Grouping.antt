-- Places in groups by the numbers that stand there.
use Rattle.std.specs.Prelude.{◌≡◌, ℕ, ◌%◌, Bool, false, List, [], length, slice_get, slice_index_or, Option, Some, None}
use Rattle.std.specs.List.{Contains}

-- Each place of the number is in the row.
abbrev pub IsRow : List ℕ → ℕ → List ℕ → Type 0
IsRow keys key row = (i : ℕ) → slice_get keys i ≡ Some key → Contains row i

-- The row of a number is that of its rest.
abbrev pub row_in : List (List ℕ) → ℕ → List ℕ
row_in rows key = slice_index_or rows (key % length rows) []

-- The rows have the places of each number.
abbrev pub AreGroups : List ℕ → List (List ℕ) → Type 0
AreGroups keys rows = (key : ℕ) → IsRow keys key (row_in rows key)

-- The element at a place passes the test.
abbrev pub test_of : {X : Type 0} → (X → Bool) → Option X → Bool
test_of test None = false
test_of test (Some x) = test x

abbrev pub at_place : {X : Type 0} → (X → Bool) → List X → ℕ → Bool
at_place test xs i = test_of test (slice_get xs i)
