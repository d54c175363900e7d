use Rattle.std.proofs.Common.{◌≡◌, take, flat_map}
use Rattle.source_classes.specs.SourceClasses.{outlines_of}
use Rattle.source_classes.proofs.classes.all_outlines.Given as goal

abbrev pub invariant-loop-i : goal.invariant-loop-i
invariant-loop-i l = l.all ≡ flat_map outlines_of (take l.i l.sources)
