use Rattle.std.proofs.Common.{◌≡◌, ◌+◌, ◌*◌, ℕ, length, slice_get, Some}
use Rattle.least_weights.specs.Numbers.{IsSettled, AreSupported, worth}
use Rattle.edges.specs.Edges.{Edge}
use Rattle.least_weights.proofs.fixpoint.empty_queue.Given as goal

abbrev pub invariant-loop-key : goal.invariant-loop-key
invariant-loop-key l = record {
  settled : (m : ℕ) (e : Edge) → slice_get l.initial.edges m ≡ Some e → IsSettled l.initial.limit.value l.numbers.items l.queue.items e;
  supported : AreSupported l.initial.limit.value l.initial.edges l.numbers.items;
  as_many : length l.numbers.items ≡ length l.initial.numbers.items;
}

abbrev pub decreases-loop-key : goal.decreases-loop-key
decreases-loop-key l = 2 * worth l.numbers.items + length l.queue.items
