use Rattle.prefetch.specs.Tasks.{key}
use Rattle.prefetch.proofs.Once.{merges_by}
use Rattle.prefetch.proofs.access.Access.join.Goals as goal

pub absorb-requires-clause-rule : goal.absorb-requires-clause-rule
absorb-requires-clause-rule g c = merges_by key _ _ _ _
