-- The list of an environment: its levels, its fronts and the whole of it.
use Rattle.std.specs.Prelude.{◌≡◌, ℕ, ◌+◌, ◌≤◌, ◌<◌, Bool, true, false, ◌&&◌, ◌==◌, List, [], ◌∷◌, All, length, map, ◌≢◌}
use Rattle.terms.specs.Expr.{Expr}
use Rattle.terms.specs.View.{expr}
use Rattle.terms.specs.Place.{IsInhabitant, is_inhabitant, total_of}
use Rattle.terms.specs.Order.{ComesBefore}
use Rattle.terms.specs.Code.{prefix_code}
use Rattle.terms.specs.Count.{expr_eq, once_if, count, total, Stands}
use Rattle.terms.specs.declared.parts.Parts.{Parts}
use Rattle.terms.specs.declared.levels.Level.{Level}

-- each member comes before all that follow it
abbrev pub IsRising : Parts → List Expr → Type 0
IsRising g [] = Unit {0}
IsRising g (e ∷ es) = All (ComesBefore g e) es × IsRising g es

-- a front of the list: strictly rising, inhabitants all, and with a member each inhabitant that comes before it
pub record IsFront (g : Parts) (es : List Expr) : Type 0 where
  pub rising : IsRising g es
  pub members : All (IsInhabitant g) es
  pub closed : (e f : Expr) → IsInhabitant g e → Stands f es → ComesBefore g e f → Stands e es

-- the whole list: a front in which each inhabitant stands
pub record IsWhole (g : Parts) (es : List Expr) : Type 0 where
  pub front : IsFront g es
  pub all : (e : Expr) → IsInhabitant g e → Stands e es

-- the level of a weight: the inhabitants with that total, as a test
abbrev pub level_of : Parts → ℕ → Expr → Bool
level_of g w e = is_inhabitant g e && (total_of g e == w)

-- no weight from the one up to the other has an inhabitant
abbrev pub Skipped : Parts → ℕ → ℕ → Type 0
Skipped g from to = (w : ℕ) → from ≤ w → w < to → (e : Expr) → level_of g w e ≡ false

-- the least weight, from `from` on, of which there is an inhabitant
pub record IsNextWeight (g : Parts) (from k : ℕ) : Type 0 where
  pub after : from ≤ k
  pub within : k ≤ g.limit
  pub before : Skipped g from k
  pub some : (e : Expr) × (level_of g k e ≡ true)

-- So many steps are few up to a weight: at most 1 and, for each inhabitant up to it, the length of its prefix code
-- and 1. The sum is over any list in which each of these inhabitants stands.
abbrev pub AreFew : Parts → ℕ → ℕ → Type 0
AreFew g w steps = (es : List Expr) → ((e : Expr) → IsInhabitant g e → total_of g e ≤ w → Stands e es) → steps ≤ 1 + total (λ e. length (prefix_code e) + 1) es

-- how far a search has come: the levels of all weights below `from` were given
pub record Progress : Type 0 where
  pub parts : Parts
  pub from : ℕ

-- the next level: all of the least weight, from `from` on, that has a member, each of them once
pub record IsNextLevel (g : Parts) (from : ℕ) (level : Level) : Type 0 where
  pub each : (e : Expr) → count (expr_eq e) (map expr level.terms) ≡ once_if (level_of g level.weight e)
  pub some : level.terms ≢ []
  pub after : from ≤ level.weight
  pub within : level.weight ≤ g.limit
  pub before : Skipped g from level.weight
