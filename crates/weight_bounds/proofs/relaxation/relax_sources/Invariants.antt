use Rattle.std.proofs.Common.{◌≡◌, ◌<◌, ℕ, length, slice_get, Some}
use Rattle.weight_bounds.specs.Numbers.{IsStep, IsSettled}
use Rattle.weight_bounds.specs.Rules.{Source, sources, source_rule}
use Rattle.weight_bounds.proofs.relaxation.relax_sources.Given as goal

abbrev pub invariant-loop-source : goal.invariant-loop-source
invariant-loop-source l = record {
  step : IsStep l.initial.setting.parts.now l.initial.setting.limit.value l.initial.numbers l.initial.queue.items l.numbers l.queue.items;
  settled : (k : ℕ) (s : Source) → k < l.source → slice_get (sources l.initial.setting.parts.now) k ≡ Some s → IsSettled l.initial.setting.parts.now l.initial.setting.limit.value l.numbers l.queue.items (source_rule l.initial.left s);
  as_many : length l.numbers ≡ length l.initial.numbers;
}
