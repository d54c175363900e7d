-- The cursors of a session, the newest first, and their pages.
use Rattle.std.specs.Prelude.{◌≡◌, ◌⊎◌, ◌≤◌, ℕ, ◌+◌, ◌==◌, if◌then◌else◌, List, [], ◌∷◌, length, take, drop, leb, All, Option, Some, None}
use Rattle.terms.specs.declared.parts.Parts.{Parts}
use Rattle.terms.specs.Expr.{Expr}
use Rattle.terms.specs.Listing.{IsWhole}
use Rattle.listing.specs.Found.{terms_of, IsItem, IsOfWholeLevels}
use Rattle.answers.specs.declared.types.Page.{Page}
use Rattle.answers.specs.declared.types.Cursor.{Cursor}

-- The page of at most `count` items from the item `from` on: its items say what their terms are, they are those of the
-- list, `last` is said exactly where the list ends with them, and no more was found than a page needs in whole levels.
pub record IsPageOf (g : Parts) (from count : ℕ) (p : Page) : Type 0 where
  pub says : All (IsItem g) p.items
  pub slice : (ws : List Expr) → IsWhole g ws → terms_of p.items ≡ take count (drop from ws)
  pub ends : (ws : List Expr) → IsWhole g ws → p.last ≡ leb (length ws) (from + length p.items)
  pub bound : (fs : List Expr) → IsOfWholeLevels g fs → (from + count + 1 ≤ length fs) ⊎ IsWhole g fs → p.grown ≤ length fs

-- How many cursors were made, and those kept.
pub record Lists : Type 0 where
  pub made : ℕ
  pub cursors : List Cursor

-- The cursor of a number, where it is kept.
unfoldable pub look : ℕ → List Cursor → Option Cursor
look k [] = None
look k (c ∷ cs) = if c.number == k then Some c else look k cs

-- The cursor of a number moves on by n items.
unfoldable pub moved : ℕ → ℕ → List Cursor → List Cursor
moved k n [] = []
moved k n (c ∷ cs) = if c.number == k then record c { answered = c.answered + n } ∷ cs else c ∷ moved k n cs

-- All cursors but those of a number.
unfoldable pub without : ℕ → List Cursor → List Cursor
without k [] = []
without k (c ∷ cs) = if c.number == k then without k cs else c ∷ without k cs

-- With a new cursor, the 64 newest are kept.
abbrev pub with_cursor : Cursor → Lists → Lists
with_cursor c l = record { made = c.number; cursors = take 64 (c ∷ l.cursors) }
