use Rattle.plain_listing.proofs.Making.{made_next}
use Rattle.plain_listing.proofs.heads.push_variables.Goals as goal

pub loop-n-preserved : goal.loop-n-preserved
loop-n-preserved c = made_next _ c.loop-n.n _ _ _ c.loop-n.invariant c.in_ok-push_variable.ensures
