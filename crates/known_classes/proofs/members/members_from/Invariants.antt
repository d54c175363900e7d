use Rattle.std.proofs.Common.{◌-◌, ◌≤◌, map}
use Rattle.std.specs.BTreeMap.{get_by_text}
use Rattle.known_classes.specs.NameTables.{AreMemberTables}
use Rattle.known_classes.proofs.members.members_from.Given as goal

abbrev pub invariant-loop-left : goal.invariant-loop-left
invariant-loop-left g l = record {
  from : l.from ≤ l.left;
  tables : AreMemberTables (g.L.ClassList.listed l.classes) l.left (get_by_text l.members.outers) (map get_by_text l.members.tables.items);
}

abbrev pub decreases-loop-left : goal.decreases-loop-left
decreases-loop-left g l = l.left - l.from
