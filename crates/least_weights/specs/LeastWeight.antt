-- The least weight of a term at a place, coercions and binders included (PLDI 2013, section 4).
use Rattle.std.specs.Prelude.{◌≡◌, ℕ, ◌+◌, ◌≤◌, ◌<◌, true, nat_le, if◌then◌else◌, List, length, slice_get, slice_index_or, Option, Some, None}
use Rattle.terms.specs.Expr.{Expr}
use Rattle.terms.specs.Place.{Place, fits_place, weigh}
use Rattle.terms.specs.declared.parts.Parts.{Parts}
use Rattle.succinct.specs.Sets.{types_bound}
use Rattle.patterns.specs.Patterned.{Patterned}
use Rattle.patterns.specs.States.{types_at, left_at}
use Rattle.patterns.specs.declared.state.State.{State}

-- w is within the limit, some term that fits the place weighs w there, and none weighs less
pub record IsLeast (g : Parts) (limit : ℕ) (p : Place) (w : ℕ) : Type 0 where
  pub within : w ≤ limit
  pub term : Expr
  pub fits : fits_place g p term ≡ true
  pub weighs : weigh g p term ≡ w
  pub least : (e : Expr) → fits_place g p e ≡ true → w ≤ weigh g p e

-- the least weight at a place, none where no term that fits there is within the limit
abbrev pub IsLeastWeight : Parts → ℕ → Place → Option ℕ → Type 0
IsLeastWeight g limit p None = (e : Expr) → fits_place g p e ≡ true → limit < weigh g p e
IsLeastWeight g limit p (Some w) = IsLeast g limit p w

-- a number as a weight, none above the limit
abbrev pub within : ℕ → ℕ → Option ℕ
within limit n = if nat_le n limit then Some n else None

-- the place of a state under these lambdas
abbrev pub place_at : Patterned → State → List (List ℕ) → Place
place_at d s ctx = record { ctx = ctx; left = left_at d.space s.set; wanted = s.goal }

-- the number of each state is the least weight in every context with the state's types, whose rows are
-- the depth less the state's lambdas left
pub record AreLeastWeights (g : Parts) (d : Patterned) (weights : List (Option ℕ)) : Type 0 where
  pub as_many : length weights ≡ length d.states
  pub each : (i : ℕ) (s : State) → slice_get d.states i ≡ Some s → (ctx : List (List ℕ)) → types_bound ctx ≡ types_at d.space s.set → length ctx + left_at d.space s.set ≡ g.depth → IsLeastWeight g g.limit (place_at d s ctx) (slice_index_or weights i None)
