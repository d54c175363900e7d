use Rattle.std.proofs.Common.{◌∙◌, ℕ, List, Some, ap}
use Rattle.succinct.specs.Sets.{joined_with}
use Rattle.patterns.specs.States.{bound_in}
use Rattle.patterns.proofs.Bindings.{set-stands, only-set}
use Rattle.patterns.proofs.steps.add_set.Goals as goal

pub returns-clause-numbered : goal.returns-clause-numbered
returns-clause-numbered c =
    let types = c.in_ok-types.ensures.value ∙ ap (λ (t : List ℕ). joined_with t c.as_slice-2.result.now) c.as_slice.ensures ∙ ap (λ (t : List ℕ). joined_with c.args.outer.now.types t) c.as_slice-2.ensures in
    set-stands _ c.in_ok-number.number _ c.in_ok-number.ensures.stands
    ∙ ap (λ (t : List ℕ). Some (record { types = t; left = c.saturating_sub-left.result })) types
    ∙ ap (λ (n : ℕ). Some (record { types = joined_with c.args.outer.now.types c.args.need.now.params; left = n })) c.saturating_sub-left.ensures

pub returns-clause-only : goal.returns-clause-only
returns-clause-only c = only-set _ _ c.in_ok-number.number (bound_in c.args.outer.now c.args.need.now) c.number_of.ensures.grown (returns-clause-numbered c) c.in_ok-number.ensures.one_more
