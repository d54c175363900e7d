use Rattle.std.proofs.Common.{◌≡◌, take, map, ◌++◌}
use Rattle.scopes.specs.Binders.{run_of}
use Rattle.scopes.proofs.binder.add_runs.Given as goal

abbrev pub invariant-loop-word : goal.invariant-loop-word
invariant-loop-word l = l.runs.items ≡ l.fn.runs.items ++ map run_of (map (λ w. w.now) (take l.word-index l.word-items))
