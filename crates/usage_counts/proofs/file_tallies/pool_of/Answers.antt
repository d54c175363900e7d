use Rattle.usage_counts.proofs.FileKeyLaws.{same-pool}
use Rattle.usage_counts.proofs.file_tallies.pool_of.Goals as goal

pub returns-in-Ok-clause-only : goal.returns-in-Ok-clause-only
returns-in-Ok-clause-only c = λ other h. same-pool other c.in-Ok.pool (c.in-Ok.ensures.only other h)
