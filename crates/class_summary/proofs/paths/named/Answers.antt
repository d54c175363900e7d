use Rattle.std.proofs.Common.{rules}
use Rattle.class_summary.specs.Sources.{name_at}
use Rattle.known_classes.proofs.KeptItems.{mapped_on, mapped_end}
use Rattle.class_summary.proofs.paths.named.Goals as goal

pub loop-i-preserved : goal.loop-i-preserved
loop-i-preserved c = mapped_on (name_at c.args.unit.now.classes) c.args.numbers.now c.loop-i.i 0 c.args.unit.now.package c.loop-i.names _ c.in_ok-name_at.field-0 (search rules) (search rules) c.in_ok-push.ensures.ok c.loop-i.invariant

pub returns : goal.returns
returns c = mapped_end (name_at c.args.unit.now.classes) c.args.numbers.now c.loop-i.i c.args.unit.now.package c.loop-i.names (search rules) c.loop-i.invariant
