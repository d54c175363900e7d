use Rattle.std.proofs.Common.{◌<◌, ◌∙◌, sym, ap, subst, arith, slice_get, length}
use Rattle.std.proofs.lemmas.Option.{slice_get-get_or, slice_get_within}
use Rattle.terms.specs.Faults.{IsValid}
use Rattle.checker.proofs.Lookups.{lowers_yes, lowers_no, pairs_more}
use Rattle.checker.proofs.reaches.lowers_reach.Goals as goal

pub returns-then-not-branch-clause-no : goal.returns-then-not-branch-clause-no
returns-then-not-branch-clause-no c = λ _ all.
    lowers_no c.args.env.now c.args.floors.now c.args.floor.now c.args.heads.now c.loop-i.i _ c.requires.heads
    (ap (λ l. slice_get l c.loop-i.i) (sym c.list_at-numbers.ensures.value) ∙ slice_get-get_or c.list_at-numbers.result.now c.loop-i.i 0 (omega arith))
    (c.in_ok-pair_reaches.ensures.no c.if-not-branch.true) all

pub loop-i-preserved : goal.loop-i-preserved
loop-i-preserved c = record {
  so_far = pairs_more c.args.env.now c.args.floors.now c.args.floor.now c.list_at-numbers.result.now c.loop-i.i (omega arith) c.loop-i.invariant.so_far (c.in_ok-pair_reaches.ensures.yes c.if-not-branch.false);
}

pub returns-clause-yes : goal.returns-clause-yes
returns-clause-yes c = λ _.
    lowers_yes c.args.env.now c.args.floors.now c.args.floor.now c.args.heads.now (subst (λ g. IsValid g) c.parts-parts.ensures.value c.parts-parts.ensures.valid) c.requires.heads
    (λ k j at.
    let there = ap (λ l. slice_get l k) c.list_at-numbers.ensures.value ∙ at in
    let low : k < length c.list_at-numbers.result.now = slice_get_within c.list_at-numbers.result.now k j there in
    c.loop-i.invariant.so_far k j (omega (arith, low)) there)
