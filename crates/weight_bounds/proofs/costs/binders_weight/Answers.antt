use Rattle.std.proofs.Common.{arith}
use Rattle.terms.proofs.Weighing.{binders_weight-times, times-fits}
use Rattle.weight_bounds.proofs.StepWeights.{binder-is}
use Rattle.weight_bounds.proofs.costs.binders_weight.Goals as goal

pub overflow_mul-result : goal.overflow_mul-result
overflow_mul-result c = omega (arith, times-fits c.args.count c.args.parts.now.steps.binder (omega arith) (omega arith))

pub returns : goal.returns
returns c = record { value = binders_weight-times c.args.parts.now c.args.count c.args.parts.now.steps.binder (binder-is c.args.parts.now) }
