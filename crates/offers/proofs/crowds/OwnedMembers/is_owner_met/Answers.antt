use Rattle.std.proofs.Common.{rules, ◌≡◌, get_or}
use Rattle.offers.specs.Scenes.{of_class}
use Rattle.offers.proofs.Rivals.{owner-within, owner-at}
use Rattle.offers.proofs.crowds.OwnedMembers.is_owner_met.Goals as goal

pub meets-requires-clause-within : goal.meets-requires-clause-within
meets-requires-clause-within c =
    let g : c.index.result.now ≡ get_or c.args.self.now.at.items c.args.place c.index.result.now = search rules in
    owner-within c.args.self.now.members c.args.self.now.owners.types c.args.self.now.at.items c.args.place c.args.other.now c.index.result.now c.requires.owned.owners c.requires.there g

pub returns : goal.returns
returns c =
    let g : c.index.result.now ≡ get_or c.args.self.now.at.items c.args.place c.index.result.now = search rules in
    c.meets.ensures (of_class c.args.other.now.owner) (owner-at c.args.self.now.members c.args.self.now.owners.types c.args.self.now.at.items c.args.place c.args.other.now c.index.result.now c.requires.owned.owners c.requires.there g)
