use Rattle.std.proofs.Common.{take}
use Rattle.decl_index.specs.Rows.{IsRow}
use Rattle.decl_index.proofs.refusals.row.Given as goal

abbrev pub invariant-loop-name : goal.invariant-loop-name
invariant-loop-name l = IsRow l.classes (take l.name-index l.names) l.row
