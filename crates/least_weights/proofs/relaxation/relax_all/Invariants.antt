use Rattle.std.proofs.Common.{◌≡◌, ◌<◌, ℕ, length, slice_get, Some}
use Rattle.edges.specs.Edges.{Edge}
use Rattle.least_weights.specs.Numbers.{IsStep, IsSettled}
use Rattle.least_weights.proofs.relaxation.relax_all.Given as goal

abbrev pub invariant-loop-edge : goal.invariant-loop-edge
invariant-loop-edge l = record {
  step : IsStep l.initial.limit.value l.initial.edges l.initial.numbers.items l.initial.queue.items l.numbers.items l.queue.items;
  settled : (m : ℕ) (e : Edge) → m < l.edge → slice_get l.initial.edges m ≡ Some e → IsSettled l.initial.limit.value l.numbers.items l.queue.items e;
  as_many : length l.numbers.items ≡ length l.initial.numbers.items;
}
