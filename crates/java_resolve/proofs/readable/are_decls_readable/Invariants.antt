use Rattle.std.proofs.Common.{◌≡◌, ℕ, ◌<◌, slice_get, Some}
use Rattle.terms.specs.declared.parts.Decl.{Decl}
use Rattle.java_resolve.specs.Readable.{IsDeclReadable}
use Rattle.java_resolve.proofs.readable.are_decls_readable.Given as goal

abbrev pub invariant-loop-decl : goal.invariant-loop-decl
invariant-loop-decl l = (i : ℕ) (d : Decl) → i < l.decl-index → slice_get l.decls i ≡ Some d → IsDeclReadable l.parts d
