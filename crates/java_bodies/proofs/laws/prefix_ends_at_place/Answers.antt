use Rattle.java_bodies.proofs.SiteLaws.{ends}
use Rattle.java_bodies.proofs.laws.prefix_ends_at_place.Goals as goal

pub returns : goal.returns
returns c = record { law = ends }
