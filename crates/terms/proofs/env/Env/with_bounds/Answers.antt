use Rattle.std.proofs.Common.{rules}
use Rattle.terms.proofs.Valid.{first-pairs}
use Rattle.terms.proofs.env.Env.with_bounds.Goals as goal

pub returns-in-Err-clause-first_fault : goal.returns-in-Err-clause-first_fault
returns-in-Err-clause-first_fault c = λ apart. first-pairs _ _ _ _ c.requires.bounds (search rules) (search rules) (c.in-Err.ensures.first_fault apart)
