use Rattle.partial_terms.proofs.Chaining.{grown-push}
use Rattle.partial_terms.proofs.chains.Chains.cons.Goals as goal

pub returns-clause-grown : goal.returns-clause-grown
returns-clause-grown g c = grown-push _ _ _ _ c.self.view_is c.in_ok-push.ensures.items
