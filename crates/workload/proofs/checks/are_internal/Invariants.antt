use Rattle.std.proofs.Common.{take}
use Rattle.std.specs.List.{AllByRecursion}
use Rattle.workload.specs.Writing.{IsInternal}
use Rattle.workload.proofs.checks.are_internal.Given as goal

abbrev pub invariant-loop-i : goal.invariant-loop-i
invariant-loop-i l = AllByRecursion IsInternal (take l.i l.names)
