use Rattle.std.proofs.Common.{◌∙◌, ap}
use Rattle.std.specs.Prelude.{is_some}
use Rattle.offers.proofs.FieldNames.{placed}
use Rattle.offers.proofs.hidden.is_name.Goals as goal

pub returns : goal.returns
returns c = c.is_some.ensures ∙ ap is_some c.place.ensures.value ∙ placed c.args.names.now c.args.text.now
