use Rattle.std.proofs.Common.{◌+◌, ◌∙◌, Some, sym, ap}
use Rattle.std.proofs.lemmas.Result.{on_ok_weaker}
use Rattle.terms.specs.Typing.{is_below}
use Rattle.terms.specs.Weights.{variable_weight, step_in}
use Rattle.reconstruction.proofs.Growths.{grew-one}
use Rattle.reconstruction.proofs.Bound.{no_variable, variable-turn}
use Rattle.reconstruction.proofs.variables.grow_variable.Goals as goal

pub returns-then-not-is_below-clause-grew : goal.returns-then-not-is_below-clause-grew
returns-then-not-is_below-clause-grew c = no_variable _ _ c.args.parent c.args.number c.args.bound _ c.requires.parent c.requires.children c.requires.bound (ap (is_below c.args.tables.now.env c.args.bound) (sym c.goal_at-goal.ensures.value) ∙ sym c.is_below.ensures.value ∙ c.if-not-is_below.true)

pub grow_by-requires-clause-head : goal.grow_by-requires-clause-head
grow_by-requires-clause-head c = variable-turn _ c.args.parent.place c.args.number c.args.bound _ c.requires.bound (ap (is_below c.args.tables.now.env c.args.bound) (sym c.goal_at-goal.ensures.value) ∙ sym c.is_below.ensures.value ∙ c.if-not-is_below.false) (c.with_step-total.ensures.value ∙ ap (λ b. variable_weight c.args.tables.now.env + step_in c.args.tables.now.env (Some c.args.bound) b) c.goal_at-goal.ensures.value)

pub returns-clause-grew : goal.returns-clause-grew
returns-clause-grew c = on_ok_weaker c.grow_by.result (λ push. grew-one _ _ _ _ _ _ _ c.grow_by.ensures.grown c.requires.children push) c.grow_by.ensures.pushes
