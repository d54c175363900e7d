-- The lines in which counts are written.
use Rattle.std.specs.Prelude.{ℕ, List, [], ◌∷◌, ◌++◌, decimal}
use Rattle.std.specs.List.{flat_map}
use Rattle.usage_counts.specs.Counts.{Key, Numbers}

-- The line of a key: how often it is used, in decimal, a space, the key, and a line feed.
abbrev pub line_text : Key × ℕ → List ℕ
line_text counted = decimal counted.1 ++ 32 ∷ counted.0 ++ 10 ∷ []

-- The lines of keys, in their order.
abbrev pub lines_text : Numbers → List ℕ
lines_text numbers = flat_map line_text numbers
