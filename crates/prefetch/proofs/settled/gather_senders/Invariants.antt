use Rattle.std.proofs.Common.{◌≡◌, ◌+◌, ◌++◌, length}
use Rattle.std.specs.List.{flat_map}
use Rattle.prefetch.specs.Settling.{tasks_of}
use Rattle.prefetch.proofs.settled.gather_senders.Given as goal

abbrev pub invariant-loop-sender : goal.invariant-loop-sender
invariant-loop-sender g l = (l.all.queue ≡ l.fn.all.queue) × (l.all.knows.parts ≡ l.fn.all.knows.parts + length l.yielded) × (l.all.knows.sent ≡ l.fn.all.knows.sent ++ flat_map tasks_of l.yielded) × (l.all.knows.got ≡ l.fn.all.knows.got)
