use Rattle.std.proofs.Common.{◌≡◌, drop}
use Rattle.terms.specs.Faults.{decls_fault}
use Rattle.terms.proofs.declarations.decls_fault.Given as goal

abbrev pub invariant-loop-i : goal.invariant-loop-i
invariant-loop-i l = decls_fault l.types 0 l.decls ≡ decls_fault l.types l.i (drop l.i l.decls)
