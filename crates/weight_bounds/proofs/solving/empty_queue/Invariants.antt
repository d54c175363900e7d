use Rattle.std.proofs.Common.{◌≡◌, ◌+◌, ◌*◌, length}
use Rattle.weight_bounds.specs.Numbers.{IsSettled, AreSupported, worth}
use Rattle.weight_bounds.specs.Rules.{Rule, IsRule}
use Rattle.weight_bounds.proofs.solving.empty_queue.Given as goal

abbrev pub invariant-loop-key : goal.invariant-loop-key
invariant-loop-key l = record {
  settled : (r : Rule) → IsRule l.initial.setting.parts.now r → IsSettled l.initial.setting.parts.now l.initial.setting.limit.value l.numbers l.queue.items r;
  supported : AreSupported l.initial.setting.parts.now l.initial.setting.limit.value l.numbers;
  as_many : length l.numbers ≡ length l.initial.numbers;
}

abbrev pub decreases-loop-key : goal.decreases-loop-key
decreases-loop-key l = 2 * worth l.numbers + length l.queue.items
