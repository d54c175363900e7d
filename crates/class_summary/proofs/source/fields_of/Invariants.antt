use Rattle.std.proofs.Common.{◌≡◌, map, take}
use Rattle.class_summary.specs.SourceSummaries.{field_of}
use Rattle.class_summary.proofs.source.fields_of.Given as goal

abbrev pub invariant-loop-i : goal.invariant-loop-i
invariant-loop-i g l = l.kept ≡ map (field_of l.unit l.class (g.C.Classes.listed l.known)) (take l.i l.fields)
