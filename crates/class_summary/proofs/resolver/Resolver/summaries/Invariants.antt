use Rattle.std.proofs.Common.{◌≡◌, ◌++◌, drop}
use Rattle.class_summary.specs.SourceSummaries.{summaries_from, summaries_of}
use Rattle.class_summary.proofs.resolver.Resolver.summaries.Given as goal

abbrev pub invariant-loop-i : goal.invariant-loop-i
invariant-loop-i g l = summaries_of l.self.unit l.self.known ≡ l.all ++ summaries_from l.self.unit l.self.known l.i (drop l.i l.classes)
