use Rattle.std.proofs.Common.{map}
use Rattle.std.specs.BTreeMap.{get_by_text}
use Rattle.class_summary.proofs.UnitTables.{AllEmpty}
use Rattle.class_summary.proofs.unit_names.empty_tables.Given as goal

abbrev pub invariant-loop-table : goal.invariant-loop-table
invariant-loop-table l = AllEmpty (map get_by_text l.tables.items)
