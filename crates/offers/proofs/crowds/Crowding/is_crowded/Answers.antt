use Rattle.std.proofs.Common.{rules, ◌≡◌, ap, false}
use Rattle.offers.specs.Candidates.{is_private}
use Rattle.offers.specs.Views.{scene}
use Rattle.offers.proofs.Rivals.{crowded-by, crowded-same}
use Rattle.offers.proofs.crowds.Crowding.is_crowded.Goals as goal

pub returns-clause-exact : goal.returns-clause-exact
returns-clause-exact c =
    let open_member : is_private c.args.member.now ≡ false = search rules in
    crowded-same (scene c.args.view.now) c.args.self.now.types c.turn.new.self.types c.args.self.now.members.members c.turn.new.self.members.members c.args.member.now c.is_met-met.result c.in_ok-turn.ensures.types (ap (λ x. x.members) c.in_ok-turn.ensures.members)
    (crowded-by (scene c.args.view.now) c.turn.new.self.types.types c.turn.new.self.members.members c.args.member.now c.turn.new.self.below.owner c.turn.new.self.below.types.types c.is_met-met.result open_member c.in_ok-turn.ensures.kept.kept.types c.in_ok-turn.ensures.owner c.is_met-met.ensures)
