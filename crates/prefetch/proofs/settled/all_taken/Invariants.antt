use Rattle.std.proofs.Common.{◌≡◌, take}
use Rattle.std.specs.List.{flat_map}
use Rattle.prefetch.specs.Settling.{taken_by}
use Rattle.prefetch.proofs.settled.all_taken.Given as goal

abbrev pub invariant-loop-worker : goal.invariant-loop-worker
invariant-loop-worker g l = l.taken.items ≡ flat_map taken_by (take l.worker-index l.workers)
