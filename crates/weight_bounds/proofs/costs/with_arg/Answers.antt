use Rattle.std.proofs.Common.{◌+◌, subst, arith}
use Rattle.weight_bounds.specs.Numbers.{IsWithin}
use Rattle.weight_bounds.proofs.costs.with_arg.Goals as goal

pub returns-in-None : goal.returns-in-None
returns-in-None c = (let above = c.in-None.ensures.value in record { value = omega (arith, above) })

pub returns-in-Some : goal.returns-in-Some
returns-in-Some c = record { value = subst (λ n. IsWithin c.args.setting.now.limit.value (c.args.sum + n) c.sum_within.result) c.in-Some.ensures.value.0 c.sum_within.ensures.value }
