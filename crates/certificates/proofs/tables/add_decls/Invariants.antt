use Rattle.std.proofs.Common.{◌≡◌, ◌++◌, map, take}
use Rattle.succinct.specs.Compression.{of_decl}
use Rattle.terms.specs.declared.parts.Decl.{Decl}
use Rattle.certificates.proofs.tables.add_decls.Given as goal

abbrev pub invariant-loop-decl : goal.invariant-loop-decl
invariant-loop-decl l = l.results.items ≡ l.initial.results.items ++ map (λ (d : Decl). (of_decl d).result) (take l.decl-index l.initial.decls)
