use Rattle.std.proofs.Common.{◌≡◌, ◌≤◌, ◌+◌, take}
use Rattle.terms.specs.Reading.{binders}
use Rattle.terms.specs.Weights.{binders_weight}
use Rattle.edges.proofs.weights.with_binders.Given as goal

abbrev pub invariant-loop-arg : goal.invariant-loop-arg
invariant-loop-arg l = record {
  within : l.sum ≤ l.initial.limit;
  so_far : l.sum ≡ l.initial.weight + binders_weight l.initial.env (binders (take l.arg-index l.initial.args));
}
