use Rattle.offers.specs.Omissions.{names_above}
use Rattle.offers.specs.Views.{scene}
use Rattle.offers.proofs.Lists.{flat-on}
use Rattle.offers.proofs.names.all_above.Goals as goal

pub loop-place-preserved : goal.loop-place-preserved
loop-place-preserved c = flat-on (names_above (scene c.args.view.now)) c.args.view.now.known c.loop-place.place c.at.result.now c.loop-place.names c.add_above.new.names c.at.ensures c.loop-place.invariant c.in_ok-add_above.ensures
