use Rattle.std.proofs.Common.{rules}
use Rattle.weight_queue.proofs.Queues.{pushed}
use Rattle.weight_queue.proofs.queue.WeightQueue.push.Goals as goal

pub returns-clause-added : goal.returns-clause-added
returns-clause-added g c = rw (← c.self.view_is) (pushed c.push.result _ _ _ (c.push.ensures.succeeds (search rules)) c.push.ensures.permutation)
