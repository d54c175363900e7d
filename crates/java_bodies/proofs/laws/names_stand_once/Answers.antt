use Rattle.java_bodies.proofs.SiteLaws.{once}
use Rattle.java_bodies.proofs.laws.names_stand_once.Goals as goal

pub returns : goal.returns
returns c = record { law = once }
