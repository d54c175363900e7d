use Rattle.std.proofs.Common.{◌≡◌, ◌++◌, drop}
use Rattle.class_summary.specs.SourceSummaries.{methods_from}
use Rattle.class_summary.proofs.source.methods_of.Given as goal

abbrev pub invariant-loop-i : goal.invariant-loop-i
invariant-loop-i g l = methods_from l.unit l.class (g.C.Classes.listed l.known) 0 l.methods ≡ l.kept ++ methods_from l.unit l.class (g.C.Classes.listed l.known) l.i (drop l.i l.methods)
