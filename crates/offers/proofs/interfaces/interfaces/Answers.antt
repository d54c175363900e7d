use Rattle.offers.specs.Functional.{is_interface}
use Rattle.offers.proofs.Lists.{filter-on}
use Rattle.offers.proofs.interfaces.interfaces.Goals as goal

pub loop-place-preserved : goal.loop-place-preserved
loop-place-preserved c = filter-on is_interface c.args.view.now.known c.loop-place.place c.at.result.now c.loop-place.all c.add_interface.new.all c.at.ensures c.loop-place.invariant c.in_ok-add_interface.ensures
