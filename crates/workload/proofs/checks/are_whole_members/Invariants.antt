use Rattle.std.proofs.Common.{take}
use Rattle.std.specs.List.{AllByRecursion}
use Rattle.workload.specs.Writing.{IsWholeMember}
use Rattle.workload.proofs.checks.are_whole_members.Given as goal

abbrev pub invariant-loop-i : goal.invariant-loop-i
invariant-loop-i l = AllByRecursion (IsWholeMember l.kind) (take l.i l.members)
