use Rattle.std.proofs.Common.{◌≡◌, ◌≤◌, ◌+◌, take}
use Rattle.terms.specs.Count.{total}
use Rattle.least_weights.specs.Numbers.{number_at}
use Rattle.least_weights.proofs.costs.cost_of.Given as goal

abbrev pub invariant-loop-tail : goal.invariant-loop-tail
invariant-loop-tail l = record {
  within : l.sum ≤ l.initial.limit.value;
  so_far : l.sum ≡ l.initial.weight + total (number_at l.initial.limit.value l.initial.numbers) (take l.tail-index l.initial.tails);
}
