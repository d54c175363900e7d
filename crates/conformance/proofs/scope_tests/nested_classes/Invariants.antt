use Rattle.java_units.specs.UnitLaws.{IsNested}
use Rattle.java_units.specs.Dimensions.{dims_of_bounds}
use Rattle.std.proofs.Common.{◌≡◌}
use Rattle.conformance.proofs.scope_tests.nested_classes.Given as goal

abbrev pub invariant-loop-name : goal.invariant-loop-name
invariant-loop-name l = IsNested l.classes × (dims_of_bounds l.classes ≡ 0)
