use Rattle.offers.specs.Views.{scene}
use Rattle.offers.proofs.Rivals.{met-found}
use Rattle.offers.proofs.crowds.Crowding.is_met.Goals as goal

pub returns : goal.returns
returns c = met-found (scene c.args.view.now) c.args.self.now.below.types.types c.args.member.now c.args.self.now.members.members c.args.self.now.groups c.row-row.result.now c.count_hash.result c.is_met_in.result c.is_met_in.ensures c.row-row.ensures c.count_hash.ensures c.requires.groups
