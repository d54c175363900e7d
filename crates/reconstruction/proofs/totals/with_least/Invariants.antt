use Rattle.std.proofs.Common.{◌≡◌, ◌≤◌, ◌+◌, take}
use Rattle.reconstruction.specs.Totals.{least_total}
use Rattle.reconstruction.proofs.totals.with_least.Given as goal

abbrev pub invariant-loop-state : goal.invariant-loop-state
invariant-loop-state l = record {
  within : l.sum ≤ l.initial.limit;
  so_far : l.sum ≡ l.initial.weight + least_total l.initial.limit l.initial.least (take l.state-index l.initial.states);
}
