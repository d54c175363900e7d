use Rattle.std.proofs.Common.{◌+◌, ◌∷◌, [], ℕ, List, inl, inr, length, get_or, ◌∙◌, sym, ap, subst, arith, length-append}
use Rattle.std.proofs.lemmas.Bool.{cases_lt}
use Rattle.std.proofs.lemmas.List.{get_or_past}
use Rattle.reconstruction.specs.Usable.{IsUsable}
use Rattle.reconstruction.proofs.Pushed.{each-more}
use Rattle.reconstruction.proofs.Used.{usable-none}
use Rattle.reconstruction.proofs.usable.all_usable.Goals as goal

pub loop-state-preserved : goal.loop-state-preserved
loop-state-preserved c =
    let P : ℕ → List ℕ → Type 0 = λ i row. IsUsable c.args.limit c.args.floors.now c.args.edges.now i row in
    let long = c.loop-state.invariant.as_many in
    let push = c.in_ok-push.ensures.added in
    let row : List ℕ = c.as_slice.result.now in
    let here : P c.loop-state.state row = subst (P c.loop-state.state) (sym c.as_slice.ensures.value) c.in_ok-write_usable.ensures.usable in
    record {
      as_many = ap (λ (l : List (List ℕ)). length l) push ∙ length-append c.loop-state.rows (row ∷ []) ∙ ap (λ n. n + 1) long;
      each = each-more [] P c.loop-state.rows c.push.new.self row c.loop-state.state long push c.loop-state.invariant.each here;
    }

pub returns : goal.returns
returns c = record {
  usable = λ i. elim (cases_lt i c.loop-state.state) [
    | inl low ↦ c.loop-state.invariant.each i low
    | inr high ↦ (
        let long = c.loop-state.invariant.as_many in
        usable-none c.args.limit c.args.floors.now c.args.edges.now i (get_or c.loop-state.rows i []) (get_or_past c.loop-state.rows i [] (omega (arith, high, long)))
        (λ m e at here. (let low = c.requires.in_range m e at in omega (arith, low, here, high, c.loop-state-test.false))))
  ];
}
