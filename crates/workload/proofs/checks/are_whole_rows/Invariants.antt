use Rattle.std.proofs.Common.{take}
use Rattle.std.specs.List.{AllByRecursion}
use Rattle.workload.specs.Writing.{IsWholeRow}
use Rattle.workload.proofs.checks.are_whole_rows.Given as goal

abbrev pub invariant-loop-i : goal.invariant-loop-i
invariant-loop-i l = AllByRecursion IsWholeRow (take l.i l.rows)
