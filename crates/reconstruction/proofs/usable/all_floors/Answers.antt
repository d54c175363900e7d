use Rattle.std.proofs.Common.{◌≡◌, ◌+◌, ◌∷◌, [], ℕ, List, length, get_or, slice_get, Some, ◌∙◌, ap, arith, length-append}
use Rattle.std.proofs.lemmas.Option.{slice_get_within}
use Rattle.edges.specs.Edges.{Edge}
use Rattle.reconstruction.specs.Totals.{declared_in, lower_in}
use Rattle.reconstruction.specs.Usable.{IsFloor}
use Rattle.reconstruction.proofs.Pushed.{each-more}
use Rattle.reconstruction.proofs.usable.all_floors.Goals as goal

pub loop-edge-preserved : goal.loop-edge-preserved
loop-edge-preserved c =
    let g = c.args.env.now in
    let es = c.args.edges.now in
    let totals = c.args.totals.now in
    let P : ℕ → ℕ → Type 0 = λ m n. (e : Edge) → slice_get es m ≡ Some e → IsFloor g es totals m e n in
    let long = c.loop-edge.invariant.as_many in
    let push = c.in_ok-push.ensures.ok in
    let here : P c.loop-edge.edge c.lighter.result = λ e at. record {
      head = λ k declared. (let h = c.lighter.ensures.head k (ap (λ x. declared_in x c.source-source.result) c.parts-parts.ensures.value ∙ ap (declared_in g) (c.source-source.ensures.value e at) ∙ declared) in omega (arith, h, c.number_at.ensures.value));
      under = λ lower n k f is at_f here_f declared. (
          let u = c.lower_floor-under.ensures.under lower (ap (λ x. lower_in x c.source-source.result c.tails.result.now) c.parts-parts.ensures.value ∙ ap (λ o. lower_in g o c.tails.result.now) (c.source-source.ensures.value e at) ∙ ap (lower_in g e.source) (c.tails.ensures.value e at) ∙ is) in
          let l = c.requires.light n k f at_f declared in
          let s = ap (λ i. get_or c.args.lightest.now i 0) here_f in
          omega (arith, u, l, s, c.lighter.ensures.least, c.coercion_weight-coercion.ensures.value));
    } in
    record {
      as_many = ap (λ (l : List ℕ). length l) push ∙ length-append c.loop-edge.floors (c.lighter.result ∷ []) ∙ ap (λ n. n + 1) long;
      each = each-more 0 P c.loop-edge.floors c.push.new.self c.lighter.result c.loop-edge.edge long push c.loop-edge.invariant.each here;
    }

pub returns : goal.returns
returns c = record { floors = λ m e at. c.loop-edge.invariant.each m (let low = slice_get_within c.args.edges.now m e at in omega (arith, low, c.loop-edge-test.false, c.len-edge-end.ensures.value)) e at }
