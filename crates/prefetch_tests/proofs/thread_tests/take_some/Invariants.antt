use Rattle.std.proofs.Common.{◌≡◌}
use Rattle.prefetch_tests.proofs.thread_tests.take_some.Given as goal

abbrev pub invariant-loop : goal.invariant-loop
invariant-loop g l = l.worker ≡ record l.initial.worker { taken = l.worker.taken }
