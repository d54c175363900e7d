use Rattle.std.proofs.Common.{◌≡◌, ◌∙◌, sym, true, length}
use Rattle.java_shapes.specs.ShapeOf.{binder_shapes}
use Rattle.java_resolve.specs.Lambdas.{are_variables}
use Rattle.java_resolve.proofs.TextFacts.{if_map}
use Rattle.java_resolve.proofs.LambdaRows.{binders_yes, binders_no, binders_long}
use Rattle.java_resolve.proofs.lambdas.has_binders.Goals as goal

pub returns-then-row-binders-clause-no : goal.returns-then-row-binders-clause-no
returns-then-row-binders-clause-no c = λ e. absurd (binders_long c.args.parts.now c.args.from c.args.row.now c.args.binders.now c.if-row-binders.true e)

pub returns-clause-yes : goal.returns-clause-yes
returns-clause-yes c =
    if_map (λ b. b ≡ are_variables c.args.parts.now c.args.from c.args.binders.now) (λ b. b ≡ true → binder_shapes c.args.parts.now c.args.from (length c.args.row.now) ≡ c.args.binders.now) c.are_variables.result
    (λ b e h. binders_yes c.args.parts.now c.args.from c.args.row.now c.args.binders.now c.if-row-binders.false (sym e ∙ h)) c.are_variables.ensures.value

pub returns-clause-no : goal.returns-clause-no
returns-clause-no c =
    if_map (λ b. b ≡ are_variables c.args.parts.now c.args.from c.args.binders.now) (λ b. binder_shapes c.args.parts.now c.args.from (length c.args.row.now) ≡ c.args.binders.now → b ≡ true) c.are_variables.result
    (λ b e h. e ∙ binders_no c.args.parts.now c.args.from c.args.row.now c.args.binders.now c.if-row-binders.false h) c.are_variables.ensures.value
