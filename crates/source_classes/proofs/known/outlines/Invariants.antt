use Rattle.std.proofs.Common.{◌≡◌, map, take}
use Rattle.source_classes.specs.SourceClasses.{outline}
use Rattle.source_classes.proofs.known.outlines.Given as goal

abbrev pub invariant-loop-class : goal.invariant-loop-class
invariant-loop-class l = l.all ≡ map outline (take l.class-index l.classes)
