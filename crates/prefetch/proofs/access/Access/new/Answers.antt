use Rattle.prefetch.proofs.Once.{begins}
use Rattle.prefetch.proofs.access.Access.new.Goals as goal

pub ruled-requires-clause-rule : goal.ruled-requires-clause-rule
ruled-requires-clause-rule g c = begins
