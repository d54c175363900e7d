use Rattle.std.proofs.Common.{map}
use Rattle.std.specs.BTreeMap.{get_by_text}
use Rattle.class_summary.proofs.UnitTables.{AreMembersFrom}
use Rattle.class_summary.proofs.unit_names.members_in.Given as goal

abbrev pub invariant-loop-left : goal.invariant-loop-left
invariant-loop-left l = AreMembersFrom l.classes l.left (map get_by_text l.members.items)

abbrev pub decreases-loop-left : goal.decreases-loop-left
decreases-loop-left l = l.left
