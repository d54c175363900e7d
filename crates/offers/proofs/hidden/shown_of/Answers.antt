use Rattle.std.proofs.Common.{◌∙◌}
use Rattle.offers.specs.Omissions.{field_texts}
use Rattle.offers.specs.Views.{scene}
use Rattle.offers.proofs.FieldNames.{shown, same-names}
use Rattle.offers.proofs.hidden.shown_of.Goals as goal

pub returns : goal.returns
returns c =
    shown (scene c.args.spellings.now) c.in_ok-taken.taken c.args.names.now c.in_ok-known.known (field_texts (scene c.args.spellings.now) c.args.members.now) c.args.members.now c.in_ok-all.all c.in_ok-taken.ensures
    (same-names c.in_ok-known.known c.as_slice.result.now (field_texts (scene c.args.spellings.now) c.args.members.now) c.in_ok-known.ensures (c.as_slice.ensures ∙ c.in_ok-fields.ensures))
    c.in_ok-all.ensures
