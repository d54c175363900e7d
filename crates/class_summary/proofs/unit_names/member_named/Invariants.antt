use Rattle.std.proofs.Common.{◌≡◌, drop}
use Rattle.class_summary.specs.Names.{member_from}
use Rattle.class_summary.proofs.unit_names.member_named.Given as goal

abbrev pub invariant-loop-i : goal.invariant-loop-i
invariant-loop-i l = member_from 0 l.outer l.name l.classes ≡ member_from l.i l.outer l.name (drop l.i l.classes)
