use Rattle.std.proofs.Common.{◌≡◌, ℕ, true, length, take}
use Rattle.terms.specs.Table.{has}
use Rattle.weight_bounds.specs.Numbers.{IsStep, IsSettled}
use Rattle.weight_bounds.specs.Rules.{variable_rule}
use Rattle.weight_bounds.proofs.relaxation.relax_variables.Given as goal

abbrev pub invariant-loop-wanted : goal.invariant-loop-wanted
invariant-loop-wanted l = record {
  step : IsStep l.initial.setting.parts.now l.initial.setting.limit.value l.initial.numbers l.initial.queue.items l.numbers l.queue.items;
  settled : (t : ℕ) → has t (take l.wanted-index l.initial.types) ≡ true → IsSettled l.initial.setting.parts.now l.initial.setting.limit.value l.numbers l.queue.items (variable_rule l.initial.setting.parts.now l.initial.left t);
  as_many : length l.numbers ≡ length l.initial.numbers;
}
