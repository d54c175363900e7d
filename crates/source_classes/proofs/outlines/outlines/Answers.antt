use Rattle.std.proofs.Common.{rules}
use Rattle.source_classes.specs.SourceClasses.{outlines_of}
use Rattle.source_classes.proofs.OutlineSteps.{outlines_first, outlines_on, outlines_end}
use Rattle.source_classes.proofs.outlines.outlines.Goals as goal

pub loop-i-init : goal.loop-i-init
loop-i-init c = outlines_first c.args.unit.now c.as_slice-classes.result.now c.new-all.result c.as_slice-classes.ensures c.new-all.ensures

pub loop-i-preserved : goal.loop-i-preserved
loop-i-preserved c = outlines_on c.args.unit.now c.as_slice-classes.result.now c.loop-i.i c.index-classes-i.result (outlines_of c.args.unit.now) c.loop-i.all c.push.new.self c.in_ok-outline_at.field-0 (search rules) c.index-classes-i.is c.in_ok-outline_at.ensures c.in_ok-push.ensures.ok c.loop-i.invariant

pub returns : goal.returns
returns c = outlines_end c.args.unit.now c.as_slice-classes.result.now c.loop-i.i (outlines_of c.args.unit.now) c.loop-i.all (search rules) c.loop-i.invariant
