use Rattle.std.proofs.Common.{◌∙◌, ◌≤◌, Some, None, sym, arith}
use Rattle.std.proofs.lemmas.Bool.{le-leb}
use Rattle.terms.proofs.Ratings.{type_of_rated}
use Rattle.terms.proofs.env.Env.type_of.Goals as goal

pub returns-in-Some : goal.returns-in-Some
returns-in-Some c =
    let fits : c.args.ctx.now.used ≤ 3 = omega arith in
    record { value = rw (le-leb c.args.ctx.now.used 3 fits) (type_of_rated _ _ _ (Some c.in-Some.rating) (sym c.in-Some.is ∙ c.rate.ensures.exact)) }

pub returns-in-None : goal.returns-in-None
returns-in-None c =
    let fits : c.args.ctx.now.used ≤ 3 = omega arith in
    record { value = rw (le-leb c.args.ctx.now.used 3 fits) (type_of_rated _ _ _ None (sym c.in-None.is ∙ c.rate.ensures.exact)) }
