use Rattle.checker.proofs.RowItems.{codes_of, one_item}
use Rattle.checker.proofs.law.rows_law.Goals as goal

pub returns-clause-codes : goal.returns-clause-codes
returns-clause-codes c = codes_of

pub returns-clause-one_term : goal.returns-clause-one_term
returns-clause-one_term c = one_item
