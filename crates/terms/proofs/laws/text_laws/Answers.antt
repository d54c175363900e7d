use Rattle.terms.proofs.Told.{told, not_told}
use Rattle.terms.proofs.laws.text_laws.Goals as goal

pub returns-clause-told_by_casts : goal.returns-clause-told_by_casts
returns-clause-told_by_casts c = told

pub returns-clause-not_told_without : goal.returns-clause-not_told_without
returns-clause-not_told_without c = not_told
