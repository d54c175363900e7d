-- A search that gives its levels one by one.
use Rattle.std.specs.Prelude.{◌≡◌, ◌≢◌, ℕ, ◌<◌, ◌≤◌, true, All, List, [], Option, None, Some}
use Rattle.terms.specs.Count.{count, expr_eq}
use Rattle.terms.specs.Expr.{Expr}
use Rattle.terms.specs.Listing.{Progress, Skipped, level_of}
use Rattle.terms.specs.Place.{IsInhabitant, total_of}
use Rattle.reconstruction.specs.Levelled.{IsAt}
use Rattle.reconstruction.specs.Tabled.{front_of}
use Rattle.reconstruction.specs.declared.item.Item.{Item}
use Rattle.reconstruction.specs.declared.item.Arena.{Arena}
use Rattle.reconstruction.specs.declared.tables.Tables.{Tables}

-- how far a search has come, the weight of the level that was begun last, or 0, and how often it popped; the keyed
-- partial terms of its queue, the one that is held, and the whole codes found of the level that is being made
pub record Rebuilding : Type 0 where
  pub progress : Progress
  pub reached : ℕ
  pub pops : ℕ
  pub queue : List (ℕ × List ℕ)
  pub held : Option (ℕ × List ℕ)
  pub level : List (List ℕ)

-- the key and the front of an item
abbrev pub shown : Arena → ℕ × Item → ℕ × List ℕ
shown a q = (q.0, front_of a q.1.front)

abbrev pub held_shown : Arena → Option (ℕ × Item) → Option (ℕ × List ℕ)
held_shown a None = None
held_shown a (Some q) = Some (shown a q)

-- different terms that were given: inhabitants of weights below that from which levels are left
pub record AreGiven (p : Progress) (es : List Expr) : Type 0 where
  pub distinct : (e : Expr) → count (expr_eq e) es ≤ 1
  pub given : All (λ e. IsInhabitant p.parts e × (total_of p.parts e < p.from)) es

-- below the level that was begun nothing is left to give; where fronts of it were found it wasn't given yet
pub record IsOn (t : Tables) (from level : ℕ) (found : List ℕ) : Type 0 where
  pub skipped : Skipped t.env from level
  pub within : level ≤ t.env.limit
  pub begun : found ≢ [] → from ≤ level

-- the item that is held has this key
abbrev pub HoldsKey : ℕ → Option (ℕ × Item) → Type 0
HoldsKey k None = ⊥
HoldsKey k (Some q) = q.0 ≡ k

-- the next level is that of a weight, and has a member
pub record IsBegun (t : Tables) (a : Arena) (from level k : ℕ) (items : List (ℕ × Item)) (found : List ℕ) : Type 0 where
  pub at : IsAt t a k items found
  pub up : from ≤ k
  pub past : level ≤ k
  pub within : k ≤ t.env.limit
  pub skipped : Skipped t.env from k
  pub met : (e : Expr) × (level_of t.env k e ≡ true)
