use Rattle.std.proofs.Common.{◌≡◌, ◌+◌, ◌<◌, ◌≤◌, ℕ, [], length, slice_get, Some, sym, ap, ◌∙◌, arith}
use Rattle.terms.specs.Reading.{binders}
use Rattle.terms.specs.Weights.{binders_weight, coercion_weight}
use Rattle.terms.specs.declared.parts.Parts.{Parts}
use Rattle.edges.specs.Edges.{source_costs}
use Rattle.terms.proofs.Weighing.{binders_weight-none}
use Rattle.edges.proofs.Binders.{binders-none}
use Rattle.edges.proofs.Costs.{cost-pair, cost-none, match-weaker}
use Rattle.edges.proofs.Options.{some_eq, none_some}
use Rattle.edges.proofs.weights.cost_of.Goals as goal

pub returns-then-place-decls-2 : goal.returns-then-place-decls-2
returns-then-place-decls-2 c =
    let decls = ap length c.as_slice-decls.ensures in
    let pairs = ap length c.as_slice-2.ensures in
    let g : Parts = c.args.env.now in
    let d : length c.parts-parts.result.now.decls ≡ length g.decls = ap (λ (p : Parts). length p.decls) c.parts-parts.ensures.value in
    let p : length c.parts-parts.result.now.pairs ≡ length g.pairs = ap (λ (p : Parts). length p.pairs) c.parts-parts.ensures.value in
    let limit : c.parts-parts.result.now.limit ≡ g.limit = ap (λ (p : Parts). p.limit) c.parts-parts.ensures.value in
    let past = c.if-place-decls.false in
    let low = c.if-place-decls-2.true in
    let coercion : c.coercion_weight.result ≡ coercion_weight g = c.coercion_weight.ensures.value in
    let at : slice_get (source_costs g) c.args.number ≡ Some c.coercion_weight.result = cost-pair g c.args.number (omega (arith, past, decls, d)) (omega (arith, low, decls, d, pairs, p)) ∙ ap (λ n. Some n) (sym coercion) in
    let none = ap (binders_weight g) binders-none ∙ binders_weight-none g in
    record {
      value = match-weaker c.with_binders-then-place-decls-2.result (c.parts-parts.result.now.limit < c.coercion_weight.result + binders_weight g (binders [])) ((w : ℕ) → slice_get (source_costs g) c.args.number ≡ Some w → g.limit < w) (λ w. (w ≡ c.coercion_weight.result + binders_weight g (binders [])) × (w ≤ c.parts-parts.result.now.limit)) (λ w. (slice_get (source_costs g) c.args.number ≡ Some w) × (w ≤ g.limit))
          (λ h w h'. (let e : c.coercion_weight.result ≡ w = some_eq c.coercion_weight.result w (sym at ∙ h') in omega (arith, h, e, none, limit)))
          (λ w h. (let q = h.0 in let r = h.1 in let e : c.coercion_weight.result ≡ w = omega (arith, q, none) in (at ∙ ap (λ n. Some n) e, omega (arith, r, limit))))
          c.with_binders-then-place-decls-2.ensures.value;
    }

pub returns : goal.returns
returns c =
    let decls = ap length c.as_slice-decls.ensures in
    let pairs = ap length c.as_slice-2.ensures in
    let g : Parts = c.args.env.now in
    let d : length c.parts-parts.result.now.decls ≡ length g.decls = ap (λ (p : Parts). length p.decls) c.parts-parts.ensures.value in
    let p : length c.parts-parts.result.now.pairs ≡ length g.pairs = ap (λ (p : Parts). length p.pairs) c.parts-parts.ensures.value in
    let past = c.if-place-decls.false in
    let high = c.if-place-decls-2.false in
    record { value = λ w h. absurd (none_some w (sym (cost-none g c.args.number (omega (arith, past, decls, d)) (omega (arith, high, decls, d, pairs, p))) ∙ h)) }
