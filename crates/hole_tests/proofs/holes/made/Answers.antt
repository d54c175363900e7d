use Rattle.scopes.proofs.HoleSites.{hole_site}
use Rattle.hole_tests.proofs.holes.made.Goals as goal

pub environment-requires-clause-site : goal.environment-requires-clause-site
environment-requires-clause-site c = hole_site c.in_ok-hole.hole.unit c.in_ok-hole.hole.site c.in_ok-hole.ensures
