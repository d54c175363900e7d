use Rattle.std.proofs.Common.{sym, ◌∙◌}
use Rattle.terms.proofs.Valid.{first-bounds}
use Rattle.terms.proofs.env.Env.checked.Goals as goal

pub returns-in-Some-clause-first_fault : goal.returns-in-Some-clause-first_fault
returns-in-Some-clause-first_fault c = λ _. first-bounds _ _ (sym c.bounds_fault.ensures ∙ c.in-Some.is)
