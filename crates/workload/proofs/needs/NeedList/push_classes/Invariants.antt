use Rattle.std.proofs.Common.{◌≡◌, ◌++◌, take}
use Rattle.std.specs.List.{flat_map}
use Rattle.workload.specs.Needs.{class_needs}
use Rattle.workload.proofs.needs.NeedList.push_classes.Given as goal

abbrev pub invariant-loop-i : goal.invariant-loop-i
invariant-loop-i l = l.self ≡ l.initial.self ++ flat_map class_needs (take l.i l.names)
