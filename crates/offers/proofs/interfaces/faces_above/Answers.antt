use Rattle.offers.specs.Views.{scene}
use Rattle.offers.proofs.Missing.{faces_among}
use Rattle.offers.proofs.interfaces.faces_above.Goals as goal

pub returns : goal.returns
returns c = faces_among (scene c.args.view.now) c.args.class.now c.args.known.now.classes c.in_ok-all.all c.requires.classes c.in_ok-all.ensures
