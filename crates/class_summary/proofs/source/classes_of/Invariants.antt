use Rattle.std.proofs.Common.{◌≡◌, take}
use Rattle.std.specs.List.{filter_map}
use Rattle.class_summary.specs.SourceSummaries.{super_of}
use Rattle.class_summary.proofs.source.classes_of.Given as goal

abbrev pub invariant-loop-i : goal.invariant-loop-i
invariant-loop-i g l = l.names ≡ filter_map (super_of l.unit l.class (g.C.Classes.listed l.known)) (take l.i l.supers)
