use Rattle.std.proofs.Common.{rules, ◌≡◌, get_or}
use Rattle.offers.specs.Views.{scene}
use Rattle.offers.proofs.Rivals.{owner-within, below-at}
use Rattle.offers.proofs.crowds.OwnedMembers.is_owner_below.Goals as goal

pub is_below-requires-clause-low : goal.is_below-requires-clause-low
is_below-requires-clause-low c =
    let g : c.index.result.now ≡ get_or c.args.self.now.at.items c.args.at c.index.result.now = search rules in
    owner-within c.args.self.now.members c.args.self.now.owners.types c.args.self.now.at.items c.args.at c.args.member.now c.index.result.now c.requires.owned.owners c.requires.here g

pub is_below-requires-clause-high : goal.is_below-requires-clause-high
is_below-requires-clause-high c =
    let g : c.index-2.result.now ≡ get_or c.args.self.now.at.items c.args.place c.index-2.result.now = search rules in
    owner-within c.args.self.now.members c.args.self.now.owners.types c.args.self.now.at.items c.args.place c.args.other.now c.index-2.result.now c.requires.owned.owners c.requires.there g

pub returns : goal.returns
returns c =
    let g : c.index.result.now ≡ get_or c.args.self.now.at.items c.args.at c.index.result.now = search rules in
    let h : c.index-2.result.now ≡ get_or c.args.self.now.at.items c.args.place c.index-2.result.now = search rules in
    below-at (scene c.args.view.now) c.args.self.now.members c.args.self.now.owners.types c.args.self.now.at.items c.args.at c.args.place c.index.result.now c.index-2.result.now c.args.member.now c.args.other.now c.is_below.result c.requires.owned.owners c.requires.here c.requires.there g h c.is_below.ensures
