use Rattle.std.proofs.Common.{◌≡◌, ◌+◌, ◌≤◌, ◌∷◌, [], ℕ, List, length, get_or, slice_get, Some, ◌∙◌, ap, refl, arith, length-append}
use Rattle.edges.specs.Edges.{Edge}
use Rattle.reconstruction.specs.Totals.{declared_in}
use Rattle.reconstruction.proofs.Pushed.{each-more}
use Rattle.reconstruction.proofs.totals.all_lightest.Goals as goal

pub lightest_of-requires : goal.lightest_of-requires
lightest_of-requires c = record { as_many = c.requires.as_many; within = c.of_state-run.ensures.run.within }

pub loop-state-preserved : goal.loop-state-preserved
loop-state-preserved c =
    let P : ℕ → ℕ → Type 0 = λ j n. (m k : ℕ) (e : Edge) → e.state ≡ j → slice_get c.args.edges.now m ≡ Some e → declared_in c.args.parts.now e.source ≡ Some k → n ≤ get_or c.args.totals.now m 0 in
    let long = c.loop-state.invariant.as_many in
    let push = c.in_ok-push.ensures.ok in
    let here : P c.loop-state.state c.lightest_of.result = λ m k e at_state at declared. (let within = c.of_state-run.ensures.run.outside m e at at_state in c.lightest_of.ensures.light m k e within.0 within.1 at declared) in
    record {
      as_many = ap (λ (l : List ℕ). length l) push ∙ length-append c.loop-state.all (c.lightest_of.result ∷ []) ∙ ap (λ n. n + 1) long;
      each = each-more 0 P c.loop-state.all c.push.new.self c.lightest_of.result c.loop-state.state long push c.loop-state.invariant.each here;
    }

pub returns : goal.returns
returns c = record { light = λ m k e at declared. c.loop-state.invariant.each e.state (let low = c.requires.in_range m e at in omega (arith, low, c.loop-state-test.false)) m k e refl at declared }
