use Rattle.std.proofs.Common.{◌≡◌, ◌++◌, map, take}
use Rattle.scopes.specs.Binders.{run_of, words, form_text}
use Rattle.scopes.proofs.binder.add_decl_runs.Given as goal

abbrev pub invariant-loop-decl : goal.invariant-loop-decl
invariant-loop-decl l = l.runs.items ≡ l.fn.runs.items ++ map run_of (words (map (λ d. form_text d.form) (take l.decl-index l.decls)))
