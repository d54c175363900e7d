use denote.Param.Send.{sendable}
use Rattle.serving.proofs.Crossing.{hub_sync}
use Rattle.serving.proofs.seats.serve_all.Goals as goal

pub is_shared-requires-2-sync-T : goal.is_shared-requires-2-sync-T
is_shared-requires-2-sync-T g c κs within = search (sendable, hub_sync) depth 20

pub join-served-requires-send-F : goal.join-served-requires-send-F
join-served-requires-send-F g c κs within = search sendable depth 20

pub returns-clause-each : goal.returns-clause-each
returns-clause-each g c i d lt =
    let same = c.replace-taken.ensures.value in
    rw (← same) (c.join-served.ensures.second.0 i d (rw same lt))
