use Rattle.std.proofs.Common.{arith}
use Rattle.terms.proofs.Weighing.{variable-most, coercion-most, step-most}
use Rattle.reconstruction.proofs.variables.with_step.Goals as goal

pub overflow_add-result : goal.overflow_add-result
overflow_add-result c =
    let g = c.args.env.now in
    omega (arith, variable-most g c.requires.valid, coercion-most g c.requires.valid, step-most g c.args.from c.args.to, c.variable_weight.ensures.value, c.step.ensures.value)
