use Rattle.std.proofs.Common.{◌<◌, ◌+◌, ◌∙◌, length, ap, rules, arith}
use Rattle.terms.specs.Weights.{binders_weight}
use Rattle.terms.proofs.Weighing.{binders_weight-none, binders_weight-more, binders_weight-rises}
use Rattle.edges.proofs.Binders.{binders-more, binders-prefix, binders-none}
use Rattle.edges.proofs.weights.with_binders.Goals as goal

pub loop-arg-init : goal.loop-arg-init
loop-arg-init c = record { within = omega arith; so_far = omega (arith, ap (binders_weight c.args.env.now) binders-none ∙ binders_weight-none c.args.env.now) }

pub returns-in-None : goal.returns-in-None
returns-in-None c =
    let low : c.loop-arg.arg-index < length c.args.args.now = search rules in
    let more = ap (binders_weight c.args.env.now) (binders-more c.args.args.now c.loop-arg.arg-index c.arg-item.result _ low c.arg-item.is) ∙ binders_weight-more c.args.env.now _ _ in
    let prefix = binders_weight-rises c.args.env.now _ _ (binders-prefix c.args.args.now (c.loop-arg.arg-index + 1)) in
    let so_far = c.loop-arg.invariant.so_far in
    record { value = omega (arith, more, prefix, so_far, c.in-None.ensures.value) }

pub loop-arg-preserved : goal.loop-arg-preserved
loop-arg-preserved c =
    let low : c.loop-arg.arg-index < length c.args.args.now = search rules in
    let more = ap (binders_weight c.args.env.now) (binders-more c.args.args.now c.loop-arg.arg-index c.arg-item.result _ low c.arg-item.is) ∙ binders_weight-more c.args.env.now _ _ in
    let so_far = c.loop-arg.invariant.so_far in
    let sum = c.in-Some.ensures.value.0 in
    record { within = c.in-Some.ensures.value.1; so_far = omega (arith, more, so_far, sum) }
