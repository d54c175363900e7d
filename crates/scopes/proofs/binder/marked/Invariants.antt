use Rattle.std.proofs.Common.{take}
use Rattle.scopes.specs.Binders.{IsMarked}
use Rattle.scopes.proofs.binder.marked.Given as goal

abbrev pub invariant-loop-run : goal.invariant-loop-run
invariant-loop-run l = IsMarked (take l.run-index l.runs) l.fn.marks.items l.marks.items
