use Rattle.std.proofs.Common.{rules}
use Rattle.known_classes.proofs.KeptItems.{followed_start, followed_on, followed_end}
use Rattle.class_summary.proofs.paths.follow.Goals as goal

pub loop-i-init : goal.loop-i-init
loop-i-init c = followed_start c.args.sign.now c.args.parts.now c.args.text.now

pub loop-i-preserved : goal.loop-i-preserved
loop-i-preserved c = followed_on c.args.sign.now c.args.parts.now c.loop-i.i c.as_str.result.now c.args.text.now c.loop-i.text _ _ (search rules) (search rules) c.in_ok-push_str.ensures.ok c.in_ok-push_str-2.ensures.ok c.loop-i.invariant

pub returns : goal.returns
returns c = followed_end c.args.sign.now c.args.parts.now c.loop-i.i c.args.text.now c.loop-i.text (search rules) c.loop-i.invariant
