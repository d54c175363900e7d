use Rattle.name_places.proofs.Places.{index-empty}
use Rattle.name_places.proofs.names.Names.new.Goals as goal

pub invariant_of-result : goal.invariant_of-result
invariant_of-result c = index-empty c.new-2.result c.new.result c.new-2.ensures.empty c.new.ensures
