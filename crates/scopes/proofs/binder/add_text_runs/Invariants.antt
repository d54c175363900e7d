use Rattle.std.proofs.Common.{◌≡◌, ◌++◌, map, take}
use Rattle.scopes.specs.Binders.{run_of, words}
use Rattle.scopes.proofs.binder.add_text_runs.Given as goal

abbrev pub invariant-loop-text : goal.invariant-loop-text
invariant-loop-text l = l.runs.items ≡ l.fn.runs.items ++ map run_of (words (take l.text-index l.texts))
