use Rattle.std.proofs.Common.{◌≡◌, ◌+◌, ◌++◌}
use Rattle.std.specs.List.{flat_map}
use Rattle.prefetch.specs.Starts.{parts_of}
use Rattle.prefetch.specs.Settling.{taken_by}
use Rattle.prefetch.proofs.settled.gather_workers.Given as goal

abbrev pub invariant-loop-worker : goal.invariant-loop-worker
invariant-loop-worker g l = (l.all.queue ≡ l.fn.all.queue) × (l.all.knows.parts ≡ l.fn.all.knows.parts + parts_of l.yielded) × (l.all.knows.sent ≡ l.fn.all.knows.sent) × (l.all.knows.got ≡ l.fn.all.knows.got ++ flat_map taken_by l.yielded)
