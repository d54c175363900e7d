use Rattle.std.proofs.Common.{◌≡◌, [], map, take, fold}
use Rattle.workload.specs.Needs.{add}
use Rattle.workload.specs.Views.{need_seen}
use Rattle.workload.proofs.plan.entries_of.Given as goal

abbrev pub invariant-loop-i : goal.invariant-loop-i
invariant-loop-i l = map need_seen l.entries.keys ≡ fold add [] (map need_seen (take l.i l.needs))
