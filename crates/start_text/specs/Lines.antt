-- The lines of a start text.
use Rattle.std.specs.Prelude.{ℕ, Bool, nat_lt, List, length, Option, [], Some, None}
use Rattle.std.specs.List.{filter, enumerate_from}
use Rattle.std.specs.Str.Lines.{lines}

-- A line with its number: one that isn't empty is a path.
abbrev pub is_path : ℕ × List ℕ → Bool
is_path line = nat_lt 0 (length line.1)

-- The paths among numbered lines.
abbrev pub paths_among : List (ℕ × List ℕ) → List (ℕ × List ℕ)
paths_among numbered = filter is_path numbered

-- The paths of a text with the numbers of their lines. A line ends at a line feed, which the last one may lack, and a
-- carriage return right before the line feed is no part of it. Lines are counted from 1, empty ones too.
abbrev pub paths_in : List ℕ → List (ℕ × List ℕ)
paths_in text = paths_among (enumerate_from 1 (lines text))

-- The paths of a text, if there is one.
abbrev pub paths_of : Option (List ℕ) → List (ℕ × List ℕ)
paths_of None = []
paths_of (Some text) = paths_in text
