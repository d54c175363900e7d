use Rattle.std.proofs.Common.{ap, arith}
use Rattle.crossbeam_queue.specs.Passes.{view as known}
use Rattle.prefetch.specs.Tasks.{key}
use Rattle.prefetch.specs.Starts.{Reach}
use Rattle.prefetch.proofs.Once.{forks_by}
use Rattle.prefetch.proofs.access.Access.cut.Goals as goal

pub another-pass-requires-clause-rule : goal.another-pass-requires-clause-rule
another-pass-requires-clause-rule g c = forks_by key c.self.inside.pass.id (known c.self.inside.pass) (omega (arith, c.requires.parts, ap (λ (r : Reach). r.knows.parts) c.self.view_is))
