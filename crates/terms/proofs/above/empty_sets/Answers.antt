use Rattle.terms.proofs.Tables.{table-empty}
use Rattle.terms.proofs.above.empty_sets.Goals as goal

pub returns-clause-table : goal.returns-clause-table
returns-clause-table c = table-empty _ c.loop.invariant.empty
