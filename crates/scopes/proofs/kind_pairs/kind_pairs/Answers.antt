use Rattle.std.proofs.Common.{rules, arith, ◌∙◌, ap, List, length, map, None}
use Rattle.std.proofs.lemmas.List.{take_all}
use Rattle.type_names.specs.declared.kinds.Erased.{Erased}
use Rattle.offers.specs.Pairs.{pairs_of}
use Rattle.offers.specs.Types.{is_below_at}
use Rattle.offers.specs.Views.{scene}
use Rattle.scopes.specs.Kinds.{number_in}
use Rattle.scopes.proofs.MovedPairs.{both, plain-pairs, void-pairs, pair-within}
use Rattle.scopes.proofs.kind_pairs.kind_pairs.Goals as goal

pub returns-then-not-has_void : goal.returns-then-not-has_void
returns-then-not-has_void c =
    c.in_ok-pairs.ensures ∙ ap (λ (ts : List Erased). pairs_of (length ts) (is_below_at (scene c.args.view.now) ts)) c.types.ensures
    ∙ plain-pairs (scene c.args.view.now) c.args.numbers.now.types c.args.numbers.now.void (search rules)

pub add_moved-requires-clause-low : goal.add_moved-requires-clause-low
add_moved-requires-clause-low c =
    let e = c.as_slice-pair-items.ensures ∙ c.in_ok-pairs.ensures ∙ ap (λ (ts : List Erased). pairs_of (length ts) (is_below_at (scene c.args.view.now) ts)) c.types.ensures in
    (pair-within (length c.args.numbers.now.types) (is_below_at (scene c.args.view.now) c.args.numbers.now.types) c.as_slice-pair-items.result.now c.loop-pair.pair-index (0, 0) e (search (rules, arith))).0

pub add_moved-requires-clause-high : goal.add_moved-requires-clause-high
add_moved-requires-clause-high c =
    let e = c.as_slice-pair-items.ensures ∙ c.in_ok-pairs.ensures ∙ ap (λ (ts : List Erased). pairs_of (length ts) (is_below_at (scene c.args.view.now) ts)) c.types.ensures in
    (pair-within (length c.args.numbers.now.types) (is_below_at (scene c.args.view.now) c.args.numbers.now.types) c.as_slice-pair-items.result.now c.loop-pair.pair-index (0, 0) e (search (rules, arith))).1

pub returns : goal.returns
returns c =
    let whole = take_all c.loop-pair.pair-index c.as_slice-pair-items.result.now (search (rules, arith)) in
    let e = c.as_slice-pair-items.ensures ∙ c.in_ok-pairs.ensures ∙ ap (λ (ts : List Erased). pairs_of (length ts) (is_below_at (scene c.args.view.now) ts)) c.types.ensures in
    c.loop-pair.invariant ∙ ap (map (both (number_in c.args.numbers.now None))) (whole ∙ e)
    ∙ void-pairs (scene c.args.view.now) c.args.numbers.now.types c.args.numbers.now.void (search rules)
