use Rattle.offers.specs.Reach.{is_offered}
use Rattle.offers.specs.Views.{scene}
use Rattle.offers.proofs.Lists.{filter-on}
use Rattle.offers.proofs.offered.kept.Goals as goal

pub loop-place-preserved : goal.loop-place-preserved
loop-place-preserved c = filter-on (is_offered (scene c.args.view.now)) c.args.view.now.known c.loop-place.place c.at.result.now c.loop-place.all c.add_offered.new.all c.at.ensures c.loop-place.invariant c.in_ok-add_offered.ensures
