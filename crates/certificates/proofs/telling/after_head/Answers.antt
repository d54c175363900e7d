use Rattle.std.proofs.Common.{◌≡◌, ◌∙◌, ap, ◌+◌, ◌-◌, take, arith}
use Rattle.terms.specs.Reading.{binders}
use Rattle.terms.specs.Weights.{binders_weight}
use Rattle.terms.proofs.Weighing.{binders_weight-none, binders_weight-more}
use Rattle.edges.proofs.Binders.{binders-more, binders-none}
use Rattle.certificates.proofs.telling.after_head.Goals as goal

pub loop-arg-init : goal.loop-arg-init
loop-arg-init c =
    let rest : c.saturating_sub-rest.result ≡ (c.args.most - c.args.decl.now.weight) - binders_weight c.args.env.now (binders (take 0 c.as_slice-arg-items.result.now)) = omega (arith, ap (binders_weight c.args.env.now) binders-none ∙ binders_weight-none c.args.env.now, c.saturating_sub-rest.ensures) in
    rest

pub loop-arg-preserved : goal.loop-arg-preserved
loop-arg-preserved c =
    let more = ap (binders_weight c.args.env.now) (binders-more c.as_slice-arg-items.result.now c.loop-arg.arg-index c.arg-item.result _ c.loop-arg-test.true c.arg-item.is) ∙ binders_weight-more c.args.env.now _ _ in
    let rest : c.after_binders-rest.result ≡ (c.args.most - c.args.decl.now.weight) - binders_weight c.args.env.now (binders (take (c.loop-arg.arg-index + 1) c.as_slice-arg-items.result.now)) = omega (arith, more, c.loop-arg.invariant, c.after_binders-rest.ensures.value) in
    rest
