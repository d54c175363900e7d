use Rattle.offers.proofs.Grouping.{grows}
use Rattle.offers.proofs.groups.add_place.Goals as goal

pub returns : goal.returns
returns c = grows (λ r. r.items) _ _ _ c.index_mut.result.now _ c.requires c.index_mut.ensures.value c.in_ok-push.ensures.items
