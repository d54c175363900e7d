use Rattle.std.proofs.Common.{◌∙◌, sym}
use Rattle.type_names.proofs.NameLaws.{part_go, part_stop, part_end}
use Rattle.type_names.proofs.names.is_internal.Goals as goal

pub returns-in-None : goal.returns-in-None
returns-in-None c = part_stop c.args.name.now c.loop-i.i c.loop-i.start _ c.loop-i-test.true (sym c.part_step.ensures ∙ c.in-None.is) c.loop-i.invariant

pub loop-i-preserved : goal.loop-i-preserved
loop-i-preserved c = part_go c.args.name.now c.loop-i.i c.loop-i.start _ _ c.loop-i-test.true (sym c.part_step.ensures ∙ c.in-Some.is) c.loop-i.invariant

pub returns : goal.returns
returns c = part_end c.args.name.now c.loop-i.i c.loop-i.start _ c.loop-i-test.false c.loop-i.invariant
