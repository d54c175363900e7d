use Rattle.std.proofs.Common.{◌≡◌, ◌≤◌, ◌+◌, take}
use Rattle.terms.specs.Count.{total}
use Rattle.weight_bounds.specs.Numbers.{arg_cost}
use Rattle.weight_bounds.proofs.costs.args_cost.Given as goal

abbrev pub invariant-loop-arg : goal.invariant-loop-arg
invariant-loop-arg l = record {
  within : l.sum ≤ l.initial.setting.limit.value;
  so_far : l.sum ≡ l.initial.weight + total (arg_cost l.initial.setting.parts.now l.initial.setting.limit.value l.initial.numbers l.initial.left) (take l.arg-index l.initial.args);
}
