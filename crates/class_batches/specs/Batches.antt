-- When a batch of files, each a number and its bytes, is full.
use Rattle.std.specs.Prelude.{ℕ, ◌≤◌, ◌⊎◌, List, length, sum_by, All}

-- How many bytes files have together.
abbrev pub bytes_of : List (ℕ × List ℕ) → ℕ
bytes_of files = sum_by (λ (file : ℕ × List ℕ). length file.1) files

-- There are 4,096 files, or they have 268,435,456 bytes or more.
abbrev pub IsFull : List (ℕ × List ℕ) → Type 0
IsFull files = (4096 ≤ length files) ⊎ (268435456 ≤ bytes_of files)

-- None of them has more bytes than a load gives.
abbrev pub AreShort : List (ℕ × List ℕ) → Type 0
AreShort files = All (λ (file : ℕ × List ℕ). length file.1 ≤ 16777216) files
