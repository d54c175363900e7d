use Rattle.java_units.specs.Dimensions.{bound_dims, over_vars}
use Rattle.std.proofs.Common.{◌≡◌}
use Rattle.conformance.proofs.scope_tests.vars_of.Given as goal

abbrev pub invariant-loop-row : goal.invariant-loop-row
invariant-loop-row l = over_vars bound_dims l.vars ≡ 0
