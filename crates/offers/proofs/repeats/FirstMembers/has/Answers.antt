use Rattle.std.proofs.Common.{◌∙◌, ap}
use Rattle.std.specs.List.{list_any}
use Rattle.offers.specs.Omissions.{is_again}
use Rattle.offers.proofs.Alike.{again-found}
use Rattle.offers.proofs.repeats.FirstMembers.has.Goals as goal

pub returns : goal.returns
returns c =
    again-found c.args.member.now c.self.inside.members c.as_slice.result.now c.self.inside.groups c.row.result.now c.args.hash c.is_again_in.result c.is_again_in.ensures c.as_slice.ensures c.row.ensures c.requires c.self.invariant
    ∙ ap (list_any (is_again c.args.member.now)) c.self.view_is
