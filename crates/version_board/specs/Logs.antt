-- The rule of a board's log, and what its steps tell.
use Rattle.std.specs.Prelude.{ℕ, ◌≡◌, ◌==◌, ◌<◌, true, List, [], ◌∷◌, ◌++◌, length, MatchBool}
use mathlib.Core.List.{IsPrefix}
use Rattle.decl_index.specs.declared.change.Change.{Change}
use Rattle.logbook.specs.Pages.{Cell, Step, View, Book, Named}

-- The first word is the number of changes. A logbook has two words; the second stays 0.
abbrev pub IsKept : List Cell → List Change → Type 0
IsKept cells log = cells ≡ (length log, true) ∷ (0, true) ∷ []

-- The first word of a logbook.
abbrev pub head_of : Book → Named
head_of book = record { tracked = true; key = 0; book = book }

-- The change was added to all that had been seen; or the log was longer, and was seen.
abbrev pub Adds : Step Change → View Change ℕ → ℕ → View Change ℕ → Type 0
Adds s v found w = MatchBool (found == s.old) (w.0 ≡ v.0 ++ s.ask ∷ []) (length w.0 ≡ found)

-- The second list begins with the first, and goes on.
abbrev pub IsLonger : List Change → List Change → Type 0
IsLonger xs ys = IsPrefix xs ys × (length xs < length ys)
