use Rattle.std.proofs.Common.{◌≡◌, ◌+◌, ◌∷◌, [], ℕ, List, length, slice_get, Some, ◌∙◌, ap, subst, arith, length-append}
use Rattle.std.proofs.lemmas.Option.{slice_get_within}
use Rattle.edges.specs.Edges.{Edge}
use Rattle.reconstruction.specs.Totals.{IsTotal, least_total}
use Rattle.reconstruction.proofs.Pushed.{each-more}
use Rattle.reconstruction.proofs.totals.all_totals.Goals as goal

pub loop-edge-preserved : goal.loop-edge-preserved
loop-edge-preserved c =
    let limit = c.args.env.now.limit in
    let least = c.args.least.now in
    let P : ℕ → ℕ → Type 0 = λ m n. (e : Edge) → slice_get c.args.edges.now m ≡ Some e → IsTotal limit (e.weight + least_total limit least e.tails) n in
    let long = c.loop-edge.invariant.as_many in
    let push = c.in_ok-push.ensures.ok in
    let here : P c.loop-edge.edge c.total_of.result = λ e at.
    subst (λ (l : List ℕ). IsTotal limit (e.weight + least_total limit least l) c.total_of.result) (c.tails.ensures.value e at)
    (subst (λ n. IsTotal limit (n + least_total limit least c.tails.result.now) c.total_of.result) (c.weight-weight.ensures.value e at) c.total_of.ensures.total) in
    record {
      as_many = ap (λ (l : List ℕ). length l) push ∙ length-append c.loop-edge.totals (c.total_of.result ∷ []) ∙ ap (λ n. n + 1) long;
      each = each-more 0 P c.loop-edge.totals c.push.new.self c.total_of.result c.loop-edge.edge long push c.loop-edge.invariant.each here;
    }

pub returns : goal.returns
returns c = record {
  totals = record {
    as_many = (let long = c.loop-edge.invariant.as_many in omega (arith, long, c.loop-edge-test.false, c.loop-edge.auto.edge-end, c.len-edge-end.ensures.value));
    each = λ m e at. c.loop-edge.invariant.each m (let low = slice_get_within c.args.edges.now m e at in omega (arith, low, c.loop-edge-test.false, c.len-edge-end.ensures.value)) e at;
  };
}
