use Rattle.std.proofs.Common.{ap, arith}
use Rattle.crossbeam_queue.specs.Passes.{view as known}
use Rattle.prefetch.specs.Tasks.{key}
use Rattle.prefetch.specs.Starts.{Reach}
use Rattle.prefetch.proofs.Once.{takes_by, accounts_by}
use Rattle.prefetch.proofs.access.Access.pop.Goals as goal

pub pop_as-requires-clause-rule : goal.pop_as-requires-clause-rule
pop_as-requires-clause-rule g c = (takes_by key c.self.inside.pass.id (known c.self.inside.pass) (omega (arith, c.requires.parts, ap (λ (r : Reach). r.knows.parts) c.self.view_is)), accounts_by key c.self.inside.pass.id (known c.self.inside.pass))
