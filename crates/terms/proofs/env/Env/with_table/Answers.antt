use Rattle.std.proofs.Common.{None, sym, ◌∙◌}
use Rattle.terms.proofs.Valid.{first-later}
use Rattle.terms.proofs.env.Env.with_table.Goals as goal

pub returns-in-Some-clause-first_fault : goal.returns-in-Some-clause-first_fault
returns-in-Some-clause-first_fault c = first-later _ _ c.requires.bounds c.requires.sound (sym c.in-Some.is ∙ c.later_fault.ensures)

pub returns-in-None-clause-valid : goal.returns-in-None-clause-valid
returns-in-None-clause-valid c = first-later _ None c.requires.bounds c.requires.sound (sym c.in-None.is ∙ c.later_fault.ensures)

pub invariant_of-result : goal.invariant_of-result
invariant_of-result c = (first-later _ None c.requires.bounds c.requires.sound (sym c.in-None.is ∙ c.later_fault.ensures), c.requires.lengths, c.requires.table)
