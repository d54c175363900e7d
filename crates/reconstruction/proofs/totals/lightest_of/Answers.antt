use Rattle.std.proofs.Common.{◌≡◌, inl, inr, Some, get_or, slice_get, ap, subst, ◌∙◌, arith}
use Rattle.std.proofs.lemmas.Bool.{cases_lt}
use Rattle.reconstruction.specs.Totals.{declared_in}
use Rattle.reconstruction.proofs.totals.lightest_of.Goals as goal

pub loop-edge-init : goal.loop-edge-init
loop-edge-init c = λ m k e low high at declared. absurd (omega (arith, low, high))

pub loop-edge-preserved : goal.loop-edge-preserved
loop-edge-preserved c = λ m k e low high at declared. elim (cases_lt m c.loop-edge.edge) [
  | inl less ↦ (let h = c.loop-edge.invariant m k e low less at declared in omega (arith, h, c.lighter-least.ensures.least))
  | inr most ↦ (
      let same : m ≡ c.loop-edge.edge = omega (arith, high, most) in
      let source = c.source.ensures.value e (subst (λ n. slice_get c.args.edges.now n ≡ Some e) same at) in
      let h = c.lighter-least.ensures.head k (ap (declared_in c.args.parts.now) source ∙ declared) in
      omega (arith, h, ap (λ n. get_or c.args.totals.now n 0) same))
]
