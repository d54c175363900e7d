use Rattle.std.proofs.Common.{◌≡◌, ◌∙◌, sym, ap, ◌*◌, ◌++◌, slice_get, Some}
use Rattle.terms.specs.Typing.{joined, rows}
use Rattle.certificates.proofs.Parting.{variable-row, variable-rated, variable-there}
use Rattle.certificates.proofs.rows.push_variable.Goals as goal

pub unreachable-requires : goal.unreachable-requires
unreachable-requires c = variable-there c.args.env.now (rows c.args.ctx.now) c.args.number c.requires.part (sym c.variable.ensures.value ∙ c.in-None.is)

pub returns-clause-rated : goal.returns-clause-rated
returns-clause-rated c =
    let at : slice_get (joined (rows c.args.ctx.now)) c.args.number ≡ Some c.in-Some.result = sym c.variable.ensures.value ∙ c.in-Some.is in
    variable-rated c.args.env.now (rows c.args.ctx.now) c.args.number c.in-Some.result c.variable_weight.result (2 * c.args.number) at c.variable_weight.ensures.value

pub returns-clause-rows : goal.returns-clause-rows
returns-clause-rows c =
    let at : slice_get (joined (rows c.args.ctx.now)) c.args.number ≡ Some c.in-Some.result = sym c.variable.ensures.value ∙ c.in-Some.is in
    c.in_ok-push-in-Some.ensures.ok ∙ ap (λ l. c.args.list.now ++ l) (variable-row c.args.env.now (rows c.args.ctx.now) c.args.number c.in-Some.result c.variable_weight.result at c.variable_weight.ensures.value)
