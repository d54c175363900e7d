use Rattle.std.proofs.Common.{◌≡◌, None, ◌∙◌, sym, ap, arith, slice_get}
use Rattle.std.proofs.lemmas.Option.{slice_get_within}
use Rattle.terms.specs.Typing.{joined}
use Rattle.reconstruction.specs.NumberedPlaces.{rows_at}
use Rattle.reconstruction.specs.Variables.{variables, bound_at}
use Rattle.reconstruction.proofs.Bound.{grew-no_variables, variables-more, all-variables}
use Rattle.reconstruction.proofs.Ways.{grew-as, grew-more}
use Rattle.reconstruction.proofs.variables.grow_variables.Goals as goal

pub loop-number-init : goal.loop-number-init
loop-number-init c = record { grew = grew-no_variables _ _ _ _ c.requires.children; most = omega arith }

pub grow_variable-requires-clause-bound : goal.grow_variable-requires-clause-bound
grow_variable-requires-clause-bound c = ap (λ r. slice_get (joined r) c.loop-number.number) (sym c.context-context.ensures.rows) ∙ sym c.variable.ensures.value ∙ c.in-Some.is

pub loop-number-preserved : goal.loop-number-preserved
loop-number-preserved c =
    let at = ap (λ r. slice_get (joined r) c.loop-number.number) (sym c.context-context.ensures.rows) ∙ sym c.variable.ensures.value ∙ c.in-Some.is in
    let low = slice_get_within (joined (rows_at c.args.tables.now.env c.args.parent.place.lambdas)) c.loop-number.number _ at in
    record {
      grew = grew-more _ _ _ _ c.args.parent _ _ _ _ _ _ c.requires.parent c.loop-number.invariant.grew c.in_ok-grow_variable.ensures.grew (variables-more c.loop-number.number);
      most = omega (arith, low);
    }

pub returns-in_default-clause-grew : goal.returns-in_default-clause-grew
returns-in_default-clause-grew c =
    let none : slice_get (joined (rows_at c.args.tables.now.env c.args.parent.place.lambdas)) c.loop-number.number ≡ None = ap (λ r. slice_get (joined r) c.loop-number.number) (sym c.context-context.ensures.rows) ∙ sym c.in_default.ensures.value in
    let all = all-variables c.args.tables.now c.args.parent.place c.loop-number.number c.loop-number.invariant.most none in
    grew-as _ _ _ _ (variables (bound_at c.args.tables.now c.args.parent.place)) (variables c.loop-number.number) _ _ (ap variables (sym all)) c.loop-number.invariant.grew
