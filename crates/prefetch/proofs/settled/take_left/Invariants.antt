use Rattle.std.proofs.Common.{◌≡◌, ◌++◌}
use Rattle.prefetch.proofs.settled.take_left.Given as goal

abbrev pub invariant-loop : goal.invariant-loop
invariant-loop g l = (l.all.knows.parts ≡ 72) × (l.all.knows.sent ≡ l.fn.all.knows.sent) × (l.all.knows.got ≡ l.fn.all.knows.got ++ l.left.items)
