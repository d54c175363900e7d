use Rattle.std.proofs.Common.{◌<◌, ◌+◌, length, rules, arith}
use Rattle.weight_bounds.specs.Numbers.{arg_cost}
use Rattle.weight_bounds.proofs.Members.{total-more, total-prefix}
use Rattle.weight_bounds.proofs.costs.args_cost.Goals as goal

pub returns-in-None : goal.returns-in-None
returns-in-None c =
    let low : c.loop-arg.arg-index < length c.args.args.now = search rules in
    let more = total-more (arg_cost c.args.setting.now.parts.now c.args.setting.now.limit.value c.args.numbers.now c.args.left) c.args.args.now c.loop-arg.arg-index c.arg-item.result _ low c.arg-item.is in
    let prefix = total-prefix (arg_cost c.args.setting.now.parts.now c.args.setting.now.limit.value c.args.numbers.now c.args.left) c.args.args.now (c.loop-arg.arg-index + 1) in
    let so_far = c.loop-arg.invariant.so_far in
    let above = c.in-None.ensures.value in
    record { value = omega (arith, more, prefix, so_far, above) }

pub loop-arg-preserved : goal.loop-arg-preserved
loop-arg-preserved c =
    let low : c.loop-arg.arg-index < length c.args.args.now = search rules in
    let more = total-more (arg_cost c.args.setting.now.parts.now c.args.setting.now.limit.value c.args.numbers.now c.args.left) c.args.args.now c.loop-arg.arg-index c.arg-item.result _ low c.arg-item.is in
    let so_far = c.loop-arg.invariant.so_far in
    let sum = c.in-Some.ensures.value.0 in
    record { within = c.in-Some.ensures.value.1; so_far = omega (arith, more, so_far, sum) }
