use Rattle.std.proofs.Common.{◌∙◌, ap, rules}
use Rattle.source_classes.specs.SourceClasses.{outlines_of}
use Rattle.source_classes.proofs.Gathered.{gathered_on, gathered_end}
use Rattle.source_classes.proofs.classes.all_outlines.Goals as goal

pub loop-i-preserved : goal.loop-i-preserved
loop-i-preserved c = gathered_on outlines_of c.args.sources.now c.loop-i.i c.index-sources-i.result c.loop-i.all c.append.new.self c.in_ok-outlines.field-0 (search rules) (c.in_ok-outlines.ensures ∙ ap outlines_of c.index-sources-i.is) c.in_ok-append.ensures c.loop-i.invariant

pub returns : goal.returns
returns c = gathered_end outlines_of c.args.sources.now c.loop-i.i c.loop-i.all (search rules) c.loop-i.invariant
