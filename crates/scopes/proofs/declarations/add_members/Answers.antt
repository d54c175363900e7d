use Rattle.std.proofs.Common.{rules, ap, ◌∙◌, List}
use Rattle.known_classes.proofs.KeptItems.{mapped_on}
use Rattle.offers.specs.declared.member.Member.{Member}
use Rattle.offers.specs.Views.{scene}
use Rattle.scopes.specs.Declarations.{member_decl}
use Rattle.scopes.proofs.declarations.add_members.Goals as goal

pub loop-member-preserved : goal.loop-member-preserved
loop-member-preserved c =
    let declared = member_decl (scene c.args.spellings.now) c.args.numbers.now in
    record {
      all = mapped_on (declared c.args.members.now) c.args.left.now c.loop-member.member-index c.member-item.result c.args.all.now c.loop-member.all c.push.new.self c.in_ok-decl.decl
          (search rules)
          (c.in_ok-decl.ensures.exact ∙ ap (λ (ms : List Member). declared ms c.member-item.result) c.loop-member.invariant.members ∙ ap (declared c.args.members.now) (search rules))
          c.in_ok-push.ensures.ok c.loop-member.invariant.all;
      types = search rules;
      members = search rules;
      kept = c.in_ok-decl.ensures.kept;
    }
