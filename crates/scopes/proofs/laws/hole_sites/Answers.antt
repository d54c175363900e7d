use Rattle.scopes.proofs.HoleSites.{hole_site}
use Rattle.scopes.proofs.laws.hole_sites.Goals as goal

pub returns : goal.returns
returns c = record { law = hole_site }
