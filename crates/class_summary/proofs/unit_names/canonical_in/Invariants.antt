use Rattle.std.proofs.Common.{length}
use Rattle.std.specs.BTreeMap.{get_by_text}
use Rattle.class_summary.specs.Sources.{canonical_name}
use Rattle.class_summary.proofs.UnitTables.{IsFirsts}
use Rattle.class_summary.proofs.unit_names.canonical_in.Given as goal

abbrev pub invariant-loop-left : goal.invariant-loop-left
invariant-loop-left l = IsFirsts (length l.unit.classes) l.left (canonical_name l.unit) (get_by_text l.by_canonical)

abbrev pub decreases-loop-left : goal.decreases-loop-left
decreases-loop-left l = l.left
