use Rattle.std.proofs.Common.{◌≡◌, length}
use Rattle.weight_bounds.specs.Numbers.{IsStep}
use Rattle.weight_bounds.proofs.Waking.{AreAllSettled, AreSettledBelow}
use Rattle.weight_bounds.proofs.solving.relax_all.Given as goal

abbrev pub invariant-loop-left : goal.invariant-loop-left
invariant-loop-left l = record {
  step : IsStep l.initial.setting.parts.now l.initial.setting.limit.value l.initial.numbers l.initial.queue.items l.numbers l.queue.items;
  outside : AreAllSettled l.initial.setting.parts.now l.initial.setting.limit.value l.numbers l.queue.items l.initial.setting.parts.now.depth;
  before : AreSettledBelow l.initial.setting.parts.now l.initial.setting.limit.value l.numbers l.queue.items l.left;
  as_many : length l.numbers ≡ length l.initial.numbers;
}
