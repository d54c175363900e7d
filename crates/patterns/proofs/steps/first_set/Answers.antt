use Rattle.std.proofs.Common.{◌∙◌, List, ℕ, Some, ap}
use Rattle.patterns.proofs.Bindings.{set-stands, sets-first, sets-only}
use Rattle.patterns.proofs.steps.first_set.Goals as goal

pub returns-clause-first : goal.returns-clause-first
returns-clause-first c =
    let at = set-stands _ c.in_ok-number_of.field-0 _ c.in_ok-number_of.ensures.stands ∙ ap (λ (t : List ℕ). Some (record { types = t; left = c.args.depth })) c.new-types.ensures in
    sets-first _ c.number_of.new.table.keys c.in_ok-number_of.field-0 _ c.new-bound.ensures.empty at c.in_ok-number_of.ensures.one_more

pub returns-clause-only : goal.returns-clause-only
returns-clause-only c =
    let at = set-stands _ c.in_ok-number_of.field-0 _ c.in_ok-number_of.ensures.stands ∙ ap (λ (t : List ℕ). Some (record { types = t; left = c.args.depth })) c.new-types.ensures in
    sets-only _ c.number_of.new.table.keys c.in_ok-number_of.field-0 _ c.new-bound.ensures.empty at c.in_ok-number_of.ensures.one_more
