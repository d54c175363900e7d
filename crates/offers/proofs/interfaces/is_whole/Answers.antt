use Rattle.std.proofs.Common.{◌∙◌, ap, sym}
use Rattle.offers.specs.Missing.{is_apart}
use Rattle.offers.specs.Views.{scene}
use Rattle.offers.proofs.Missing.{whole_apart}
use Rattle.offers.proofs.interfaces.is_whole.Goals as goal

pub returns : goal.returns
returns c = c.in_ok-apart.ensures ∙ ap (is_apart (scene c.args.view.now) c.args.class.now) c.requires ∙ sym (whole_apart (scene c.args.view.now) c.args.class.now)
