use Rattle.std.proofs.Common.{◌-◌, ◌≤◌}
use Rattle.std.specs.BTreeMap.{get_by_text}
use Rattle.known_classes.specs.NameTables.{IsCanonicalTable}
use Rattle.known_classes.proofs.name_tables.canonical_from.Given as goal

abbrev pub invariant-loop-left : goal.invariant-loop-left
invariant-loop-left g l = record {
  from : l.from ≤ l.left;
  table : IsCanonicalTable (g.L.ClassList.listed l.classes) l.left (get_by_text l.table);
}

abbrev pub decreases-loop-left : goal.decreases-loop-left
decreases-loop-left g l = l.left - l.from
