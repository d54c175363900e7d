use denote.Param.Send.{sendable}
use Rattle.serving.proofs.Crossing.{hub_sync}
use Rattle.serving.proofs.seats.serve_slice.Goals as goal

pub is_shared-requires-2-sync-T : goal.is_shared-requires-2-sync-T
is_shared-requires-2-sync-T g c κs within = search (sendable, hub_sync) depth 20

pub for_each_mut-requires-clause-accepts : goal.for_each_mut-requires-clause-accepts
for_each_mut-requires-clause-accepts g c κs within = search sendable depth 20

pub returns-clause-each : goal.returns-clause-each
returns-clause-each g c i d lt = let at = (c.for_each_mut.ensures i d lt).1 in rw (← at.argument_is, ← at.left) at.call
