use Rattle.std.proofs.Common.{◌∙◌, ◌≤◌, sym, arith}
use Rattle.std.proofs.lemmas.Bool.{le-leb}
use Rattle.terms.proofs.Ratings.{weight_of_rated, weight_of_none}
use Rattle.terms.proofs.env.Env.weight.Goals as goal

pub returns-in-Some : goal.returns-in-Some
returns-in-Some c =
    let fits : c.args.ctx.now.used ≤ 3 = omega arith in
    record { value = c.told.ensures ∙ rw (le-leb c.args.ctx.now.used 3 fits) (weight_of_rated _ _ _ c.in-Some.rating (sym c.in-Some.is ∙ c.rate.ensures.exact)) }

pub returns-in-None : goal.returns-in-None
returns-in-None c =
    let fits : c.args.ctx.now.used ≤ 3 = omega arith in
    record { value = rw (le-leb c.args.ctx.now.used 3 fits) (weight_of_none _ _ _ (sym c.in-None.is ∙ c.rate.ensures.exact)) }
