use Rattle.std.proofs.Common.{rules, sym, ◌∙◌}
use Rattle.class_summary.specs.Summaries.{field_kept}
use Rattle.known_classes.proofs.KeptItems.{kept_on, dropped_on, kept_end}
use Rattle.class_summary.proofs.shape.all_fields.Goals as goal

pub loop-i-preserved : goal.loop-i-preserved
loop-i-preserved c = kept_on field_kept c.args.members.now c.loop-i.i c.index-members-i.result c.loop-i.kept _ c.in-Some.field (search rules) (search rules) (sym c.in_ok-field.ensures ∙ c.in-Some.is) c.in_ok-push.ensures.ok c.loop-i.invariant

pub loop-i-preserved-in_default : goal.loop-i-preserved-in_default
loop-i-preserved-in_default c = dropped_on field_kept c.args.members.now c.loop-i.i c.index-members-i.result c.loop-i.kept (search rules) (search rules) (sym c.in_ok-field.ensures ∙ c.in_default.is) c.loop-i.invariant

pub returns : goal.returns
returns c = kept_end field_kept c.args.members.now c.loop-i.i c.loop-i.kept (search rules) c.loop-i.invariant
