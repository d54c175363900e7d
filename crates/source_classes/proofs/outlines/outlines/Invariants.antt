use Rattle.std.proofs.Common.{◌≡◌, ◌++◌, drop}
use Rattle.source_classes.specs.SourceClasses.{outlines_of}
use Rattle.source_classes.proofs.OutlineSteps.{outlines_from}
use Rattle.source_classes.proofs.outlines.outlines.Given as goal

abbrev pub invariant-loop-i : goal.invariant-loop-i
invariant-loop-i l = outlines_of l.unit ≡ l.all ++ outlines_from l.unit l.i (drop l.i l.classes)
