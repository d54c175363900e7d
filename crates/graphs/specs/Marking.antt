-- What the marks and the nodes that wait come to, as a search goes on.
use Rattle.std.specs.Prelude.{ℕ, Bool, true, false, List, [], ◌∷◌, ◌++◌, cond, ◌≡◌, Contains}
use lib.ListN.{set}
use Rattle.graphs.specs.Graph.{is_marked}

-- The marks, and the nodes that wait.
abbrev pub Work : Type 0
Work = List Bool × List ℕ

-- A node that isn't marked is marked and waits.
unfoldable pub mark : Work → ℕ → Work
mark w b = cond (is_marked w.0 b) w (set w.0 b true, w.1 ++ b ∷ [])

-- Each node of a row is marked.
unfoldable pub mark_row : Work → List ℕ → Work
mark_row w [] = w
mark_row w (b ∷ bs) = mark_row (mark w b) bs

-- The marks of these nodes are taken away.
unfoldable pub unmark : List Bool → List ℕ → List Bool
unmark marks [] = marks
unmark marks (b ∷ bs) = unmark (set marks b false) bs

-- Each marked node stands in the list.
abbrev pub AreListed : List Bool → List ℕ → Type 0
AreListed marks nodes = (k : ℕ) → is_marked marks k ≡ true → Contains nodes k
