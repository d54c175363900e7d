use Rattle.std.specs.BTreeMap.{get_by_text}
use Rattle.class_summary.proofs.UnitTables.{IsTop}
use Rattle.class_summary.proofs.unit_names.top_in.Given as goal

abbrev pub invariant-loop-left : goal.invariant-loop-left
invariant-loop-left l = IsTop l.classes l.left (get_by_text l.top)

abbrev pub decreases-loop-left : goal.decreases-loop-left
decreases-loop-left l = l.left
