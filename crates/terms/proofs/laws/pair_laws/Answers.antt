use Rattle.terms.proofs.Valid.{valid-transitive, valid-pair}
use Rattle.terms.proofs.laws.pair_laws.Goals as goal

pub returns-clause-joins : goal.returns-clause-joins
returns-clause-joins c = valid-transitive

pub returns-clause-strict : goal.returns-clause-strict
returns-clause-strict c = λ g valid a b h. (valid-pair g valid a b h).2
