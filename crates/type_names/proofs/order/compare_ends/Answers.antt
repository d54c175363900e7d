use Rattle.type_names.proofs.OrderLaws.{when_longer}
use Rattle.type_names.proofs.order.compare_ends.Goals as goal

pub returns-in-len1-up : goal.returns-in-len1-up
returns-in-len1-up c = when_longer _ _ _ _ c.requires c.in-len1-up.len_at_least c.then-in-len1-up.ensures c.cmp-in-len1-up.ensures
