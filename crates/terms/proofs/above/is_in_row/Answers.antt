use Rattle.std.proofs.Common.{◌∙◌}
use Rattle.terms.proofs.Tables.{has-searched}
use Rattle.terms.proofs.above.is_in_row.Goals as goal

pub returns : goal.returns
returns c = c.is_ok.ensures.value ∙ has-searched _ _ _ c.binary_search.ensures.position c.requires
