use Rattle.std.proofs.Common.{rules, ◌≡◌, false}
use Rattle.offers.specs.Omissions.{is_instance}
use Rattle.offers.specs.Views.{scene}
use Rattle.offers.proofs.Overriding.{over-found, over-none}
use Rattle.offers.proofs.overrides.is_overriding.Goals as goal

pub returns-then-not-is_instance : goal.returns-then-not-is_instance
returns-then-not-is_instance c =
    let other : is_instance c.args.member.now ≡ false = search rules in
    over-none (scene c.args.view.now) c.args.member.now c.args.members.now.members other

pub returns : goal.returns
returns c =
    over-found (scene c.args.view.now) c.args.member.now c.args.members.now.members c.args.groups.now c.row-row.result.now c.call_hash.result c.in_ok-over.over c.in_ok-over.ensures c.row-row.ensures c.call_hash.ensures c.requires.groups
