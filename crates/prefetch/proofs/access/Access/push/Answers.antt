use Rattle.std.proofs.Common.{ap, arith}
use Rattle.crossbeam_queue.specs.Passes.{view as known, ruled_capacity}
use Rattle.prefetch.specs.Tasks.{key}
use Rattle.prefetch.specs.Starts.{Reach}
use Rattle.prefetch.proofs.Once.{hands_by}
use Rattle.prefetch.proofs.Reaching.{pushed}
use Rattle.prefetch.proofs.access.Access.push.Goals as goal

pub push_as-requires-clause-rule : goal.push_as-requires-clause-rule
push_as-requires-clause-rule g c = (hands_by key _ c.self.inside.pass.id (known c.self.inside.pass) c.args.task (omega (arith, c.requires.parts, ap (λ (r : Reach). r.knows.parts) c.self.view_is)), λ items views h at. tt)

pub returns : goal.returns
returns g c = record { handed = pushed key c.push_as.result c.args.task _ _ _ _ _ _ _ c.self.view_is c.push_as.ensures.queue.0 (ap ruled_capacity c.deref.ensures) c.push_as.ensures.rule }
