use Rattle.serving.proofs.Starting.{first-of, fault-of}
use Rattle.serving.proofs.service.started_version.Goals as goal

pub returns-clause-first : goal.returns-clause-first
returns-clause-first g c = first-of _ _ c.read_start.result c.read_start.ensures.version c.read_start.ensures.refused

pub returns-clause-fault : goal.returns-clause-fault
returns-clause-fault g c = fault-of _ _ c.read_start.result c.read_start.ensures.fault c.read_start.ensures.refused
