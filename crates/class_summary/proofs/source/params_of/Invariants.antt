use Rattle.std.proofs.Common.{◌≡◌, map, take}
use Rattle.class_summary.specs.SourceSummaries.{param_of}
use Rattle.class_summary.proofs.source.params_of.Given as goal

abbrev pub invariant-loop-i : goal.invariant-loop-i
invariant-loop-i g l = l.kept ≡ map (param_of l.unit l.class l.method (g.C.Classes.listed l.known)) (take l.i l.params)
