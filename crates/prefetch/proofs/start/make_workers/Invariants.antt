use Rattle.std.proofs.Common.{◌≡◌, ◌-◌}
use Rattle.prefetch.specs.Rule.{fresh}
use Rattle.prefetch.specs.Starts.{new_workers}
use Rattle.prefetch.proofs.start.make_workers.Given as goal

abbrev pub invariant-loop : goal.invariant-loop
invariant-loop g l = (l.workers.items ≡ new_workers l.fn.rest.queue l.counter) × (l.rest.queue ≡ l.fn.rest.queue) × (l.rest.knows ≡ fresh (l.fn.rest.knows.parts - l.counter))
