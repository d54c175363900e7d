-- The weights of a version.
use Rattle.std.specs.Prelude.{◌≤◌, ◌+◌}
use Rattle.decl_index.specs.declared.weights.Weights.{Weights}

-- A use of a bound variable and a binder weigh from 1 to 100, a coercion from 1 to 10,000. Each other weight is from
-- 5 to 10,000, and so are `far` and `span` together.
pub record AreWeights (w : Weights) : Type 0 where
  pub bound : (1 ≤ w.bound) × (w.bound ≤ 100)
  pub binder : (1 ≤ w.binder) × (w.binder ≤ 100)
  pub step : (1 ≤ w.step) × (w.step ≤ 10000)
  pub local : (5 ≤ w.local) × (w.local ≤ 10000)
  pub lambda : (5 ≤ w.lambda) × (w.lambda ≤ 10000)
  pub own : (5 ≤ w.own) × (w.own ≤ 10000)
  pub near : (5 ≤ w.«package») × (w.«package» ≤ 10000)
  pub literal : (5 ≤ w.literal) × (w.literal ≤ 10000)
  pub far : (5 ≤ w.far) × (w.far + w.span ≤ 10000)

-- The weights that are used where no others are set.
abbrev pub usual : Weights
usual = record { bound = 1; binder = 1; local = 5; step = 10; lambda = 10; own = 20; «package» = 25; literal = 200; far = 215; span = 785 }
