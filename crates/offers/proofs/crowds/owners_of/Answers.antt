use Rattle.std.proofs.Common.{rules, ◌≡◌, ◌<◌, arith, length, get_or}
use Rattle.offers.proofs.Rivals.{owners-on}
use Rattle.offers.proofs.crowds.owners_of.Goals as goal

pub loop-member-preserved : goal.loop-member-preserved
loop-member-preserved c =
    let l : c.loop-member.member-index < length c.args.members.now = search (rules, arith) in
    let h : c.member-item.result ≡ get_or c.args.members.now c.loop-member.member-index c.member-item.result = search rules in
    owners-on c.args.members.now c.loop-member.member-index c.member-item.result c.loop-member.kinds c.place_for.new.kinds c.loop-member.at.items c.push.new.self.items c.in_ok-place_for.field-0 c.loop-member.invariant c.in_ok-place_for.ensures.kept c.in_ok-place_for.ensures.here c.in_ok-push.ensures.items l h
