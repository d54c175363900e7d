use Rattle.std.proofs.Common.{arith}
use Rattle.terms.proofs.Weighing.{binders_weight-times, times-fits}
use Rattle.terms.proofs.env.Env.binders_weight.Goals as goal

pub overflow_mul-result : goal.overflow_mul-result
overflow_mul-result c = omega (arith, times-fits c.args.count c.binder_weight.result (omega arith) (omega arith))

pub returns : goal.returns
returns c = record { value = binders_weight-times c.args.self.now c.args.count c.binder_weight.result c.binder_weight.ensures.value }
