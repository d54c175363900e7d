use Rattle.std.proofs.Common.{◌≡◌, map, take}
use Rattle.terms.specs.declared.parts.Decl.{Decl}
use Rattle.checker.proofs.heads.results_of.Given as goal

abbrev pub invariant-loop-decl : goal.invariant-loop-decl
invariant-loop-decl l = l.results.items ≡ map (λ (d : Decl). d.result) (take l.decl-index l.decls)
