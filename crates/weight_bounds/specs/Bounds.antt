-- Bounds on weights: the least weight of a relaxed term for each type and each count of lambdas left.
use Rattle.std.specs.Prelude.{◌≡◌, ℕ, ◌+◌, ◌*◌, ◌≤◌, ◌<◌, true, nat_le, nat_lt, if◌then◌else◌, List, length, slice_index_or, Option, Some, None}
use Rattle.terms.specs.Expr.{Expr}
use Rattle.terms.specs.Place.{Place, fits_place, weigh}
use Rattle.terms.specs.Table.{has}
use Rattle.terms.specs.Typing.{joined}
use Rattle.terms.specs.declared.parts.Parts.{Parts}
use Rattle.weight_bounds.specs.Relaxed.{Weighs, parameters}

-- the place of a type with so many lambdas left: each type has four places beside each other
abbrev pub place : ℕ → ℕ → ℕ
place t left = 4 * t + left

-- what a table of such places says of a type with so many lambdas left, none past its end
abbrev pub bound_at : List (Option ℕ) → ℕ → ℕ → Option ℕ
bound_at bounds left t = if nat_lt left 4 then slice_index_or bounds (place t left) None else None

-- w is a weight within the limit that some relaxed term has, and none less
pub record IsLeast (g : Parts) (left t w : ℕ) : Type 0 where
  pub within : w ≤ g.limit
  pub reached : Weighs g left t w
  pub least : (v : ℕ) → Weighs g left t v → w ≤ v

-- the least weight of a relaxed term, none where no relaxed term is within the limit
abbrev pub IsLeastRelaxed : Parts → ℕ → ℕ → Option ℕ → Type 0
IsLeastRelaxed g left t None = (v : ℕ) → Weighs g left t v → g.limit < v
IsLeastRelaxed g left t (Some w) = IsLeast g left t w

-- each bound, up to the depth of the environment, is the least weight of a relaxed term
abbrev pub AreLeastRelaxed : Parts → List (Option ℕ) → Type 0
AreLeastRelaxed g bounds = (left t : ℕ) → left ≤ g.depth → IsLeastRelaxed g left t (bound_at bounds left t)

-- where more lambdas would be left than the environment allows there is no bound
abbrev pub NoneIsDeeper : Parts → List (Option ℕ) → Type 0
NoneIsDeeper g bounds = (left t : ℕ) → g.depth < left → bound_at bounds left t ≡ None

-- a place under lambdas of the environment: what they bind are types of parameters, and they and those left are no
-- more than the depth
pub record IsUnderLambdas (g : Parts) (p : Place) : Type 0 where
  pub deep : length p.ctx + p.left ≤ g.depth
  pub bound : (t : ℕ) → has t (joined p.ctx) ≡ true → has t (parameters g) ≡ true

-- the weight is no less than the bound, or above the limit where there is no bound
abbrev pub IsNoLess : ℕ → Option ℕ → ℕ → Type 0
IsNoLess limit None w = limit < w
IsNoLess limit (Some v) w = v ≤ w

-- no term weighs less at a place than the bound of its type and its count of lambdas left
abbrev pub AreLow : Parts → List (Option ℕ) → Type 0
AreLow g bounds = (p : Place) → IsUnderLambdas g p → (e : Expr) → fits_place g p e ≡ true → IsNoLess g.limit (bound_at bounds p.left p.wanted) (weigh g p e)

-- a number as a bound, none above the limit
abbrev pub within : ℕ → ℕ → Option ℕ
within limit n = if nat_le n limit then Some n else None
