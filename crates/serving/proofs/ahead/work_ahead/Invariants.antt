use Rattle.std.proofs.Common.{◌≡◌}
use mathlib.Core.List.{IsPrefix}
use Rattle.serving.proofs.ahead.work_ahead.Given as goal

abbrev pub invariant-loop : goal.invariant-loop
invariant-loop g l = record {
  same : l.worker ≡ record l.initial.worker { taken = l.worker.taken };
  kept : IsPrefix l.initial.worker.taken l.worker.taken;
}
