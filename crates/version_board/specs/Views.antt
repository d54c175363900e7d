-- What a pass has seen of a board, and how each step changes it.
use Rattle.std.specs.Prelude.{ℕ, ◌≡◌, List, [], ◌∷◌, ◌++◌, length}
use mathlib.Core.Option.{some}
use mathlib.Core.List.{IsPrefix}
use Rattle.decl_index.specs.declared.change.Change.{Change}
use lib.ListN.{get_elem?}
use Rattle.version_board.specs.declared.view.View.{View}

-- Who has seen the first journal, and has read nothing.
abbrev pub newcomer : List Change → View
newcomer first = record { seen = first; reads = [] }

-- The board's rule: the journal that is shown begins with the first one, and with what each has seen.
abbrev pub AllBegin : List Change → List Change → List View → Type 0
AllBegin first shown views = IsPrefix first shown × ((seat : ℕ) (v : View) → get_elem? views seat ≡ some v → IsPrefix v.seen shown)

-- A pass reads the journal that is shown: it begins with all that the pass had seen, and is one read more.
abbrev pub HasRead : View → List Change → List Change → View → Type 0
HasRead v before shown w = IsPrefix v.seen shown × (w.seen ≡ shown) × (w.reads ≡ v.reads ++ length shown ∷ [])

-- A pass looks at the journal that is shown, which is no read.
abbrev pub HasLooked : View → List Change → List Change → View → Type 0
HasLooked v before shown w = IsPrefix v.seen shown × (w.seen ≡ shown) × (w.reads ≡ v.reads)

-- The publisher shows a journal.
abbrev pub HasPublished : View → List Change → List Change → View → Type 0
HasPublished v before shown w = (w.seen ≡ shown) × (w.reads ≡ v.reads)
