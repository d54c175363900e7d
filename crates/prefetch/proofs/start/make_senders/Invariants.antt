use Rattle.std.proofs.Common.{◌≡◌, ◌-◌}
use Rattle.prefetch.specs.Rule.{fresh}
use Rattle.prefetch.specs.Starts.{new_senders}
use Rattle.prefetch.proofs.start.make_senders.Given as goal

abbrev pub invariant-loop-number : goal.invariant-loop-number
invariant-loop-number g l = (l.senders.items ≡ new_senders l.initial.rest.queue l.initial.rest.capacity l.number) × (l.rest ≡ record l.initial.rest { knows = fresh (72 - l.number) })
