use Rattle.std.proofs.Common.{◌≡◌, drop}
use Rattle.scopes.specs.Binders.{run_from, run_of}
use Rattle.scopes.proofs.binder.run_of.Given as goal

abbrev pub invariant-loop-i : goal.invariant-loop-i
invariant-loop-i l = run_of l.word ≡ run_from l.i (drop l.i l.word)
