use Rattle.std.proofs.Common.{◌+◌, ◌∙◌, Some, None, sym, ap, arith}
use Rattle.terms.proofs.Valid.{valid-limit}
use Rattle.reconstruction.proofs.Seeking.{place-least}
use Rattle.reconstruction.proofs.start.least_at.Goals as goal

pub overflow_add-result : goal.overflow_add-result
overflow_add-result c = (let low = valid-limit c.parts.result.now c.parts.ensures.valid in omega (arith, low.1))

pub returns-in-Some : goal.returns-in-Some
returns-in-Some c = record { value = place-least c.args.tables.now c.requires.complete c.args.place c.requires.place (Some c.in-Some.weight) (sym c.in-Some.is ∙ c.least.ensures.value) }

pub returns-in-None : goal.returns-in-None
returns-in-None c = record { value = ap (λ g. g.limit + 1) c.parts.ensures.value ∙ place-least c.args.tables.now c.requires.complete c.args.place c.requires.place None (sym c.in-None.is ∙ c.least.ensures.value) }
