use Rattle.java_resolve.proofs.Resolving.{AreShortTo}
use Rattle.java_resolve.proofs.lengths.short_rows.Given as goal

abbrev pub invariant-loop-decl : goal.invariant-loop-decl
invariant-loop-decl l = AreShortTo l.decl-index l.decl-items
