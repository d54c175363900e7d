use Rattle.std.proofs.Common.{◌≡◌, ◌++◌, map, take}
use Rattle.scopes.specs.Binders.{run_of}
use Rattle.scopes.proofs.binder.add_name_runs.Given as goal

abbrev pub invariant-loop-name : goal.invariant-loop-name
invariant-loop-name l = l.runs.items ≡ l.fn.runs.items ++ map run_of (take l.name-index l.names)
