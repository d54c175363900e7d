use Rattle.std.proofs.Common.{◌≡◌}
use Rattle.class_summary.specs.Sources.{internal_name}
use Rattle.class_summary.specs.UnitTables.{numbered}
use Rattle.class_summary.proofs.unit_names.internal_names.Given as goal

abbrev pub invariant-loop-i : goal.invariant-loop-i
invariant-loop-i l = l.names ≡ numbered (internal_name l.unit) 0 l.i
