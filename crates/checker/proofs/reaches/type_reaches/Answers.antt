use Rattle.std.proofs.Common.{◌∙◌, sym, ap, subst}
use Rattle.terms.specs.Faults.{IsValid}
use Rattle.checker.specs.Checks.{places_reach}
use Rattle.checker.proofs.Lookups.{type_yes, type_no}
use Rattle.checker.proofs.reaches.type_reaches.Goals as goal

pub returns-clause-yes : goal.returns-clause-yes
returns-clause-yes c = λ e.
    type_yes c.args.env.now c.args.floors.now c.args.floor.now c.args.heads.now c.args.lower (subst (λ g. IsValid g) c.parts-parts.ensures.value c.parts-parts.ensures.valid) c.requires.heads
    (sym (ap (places_reach c.args.env.now c.args.floors.now c.args.floor.now) c.list_at-numbers.ensures.value) ∙ sym c.in_ok-reaches.ensures ∙ e)

pub returns-clause-no : goal.returns-clause-no
returns-clause-no c = λ e.
    type_no c.args.env.now c.args.floors.now c.args.floor.now c.args.heads.now c.args.lower c.requires.heads
    (sym (ap (places_reach c.args.env.now c.args.floors.now c.args.floor.now) c.list_at-numbers.ensures.value) ∙ sym c.in_ok-reaches.ensures ∙ e)
