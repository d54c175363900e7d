use Rattle.std.proofs.Common.{rules, ◌≡◌, ◌∙◌, ap, sym, refl, not, filter}
use Rattle.std.specs.Prelude.{reverse}
use Rattle.source_classes.specs.SourceClasses.{is_private}
use Rattle.source_classes.proofs.Backwards.{back_first, back_end, filtered_skip, filtered_keep}
use Rattle.source_classes.proofs.private.others.Goals as goal

pub loop-member-init : goal.loop-member-init
loop-member-init g c = back_first _ c.args.members c.args.members c.new-kept.result.items refl refl c.new-kept.ensures.items

pub loop-member-preserved-then-is_private : goal.loop-member-preserved-then-is_private
loop-member-preserved-then-is_private g c = filtered_skip _ c.args.members c.loop-member.left c.pop.new.self c.loop-member.kept.items c.in-Some.member c.in-Some.ensures (ap not (ap is_private (sym c.flags.ensures) ∙ (sym c.is_private.ensures ∙ c.if-is_private.true))) c.loop-member.invariant

pub loop-member-preserved : goal.loop-member-preserved
loop-member-preserved g c = filtered_keep _ c.args.members c.loop-member.left c.pop.new.self c.loop-member.kept.items c.push.new.self.items c.in-Some.member c.in-Some.ensures (ap not (ap is_private (sym c.flags.ensures) ∙ (sym c.is_private.ensures ∙ c.if-is_private.false))) c.in_ok-push.ensures.items c.loop-member.invariant

pub returns : goal.returns
returns g c =
    let m : reverse c.loop-member.kept.items ≡ filter (λ m. not (is_private (g.M.Member.flags_of m))) c.args.members = back_end _ c.args.members c.loop-member.left c.loop-member.kept.items (search rules) c.loop-member.invariant in
    search rules
