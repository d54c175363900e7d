use Rattle.std.proofs.Common.{rules, IsUtf8}
use Rattle.hole_texts.proofs.Each.{holds_step, holds_end}
use Rattle.hole_texts.proofs.looks.look_at_all.Goals as goal

pub loop-text-preserved : goal.loop-text-preserved
loop-text-preserved c = holds_step IsUtf8 c.args.texts.now c.loop-text.text-index c.text-item.result c.text-item.is c.loop-text.invariant c.look_at_text.ensures

pub returns : goal.returns
returns c = holds_end IsUtf8 c.args.texts.now c.loop-text.text-index (search rules) c.loop-text.invariant
