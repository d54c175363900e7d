use Rattle.std.proofs.Common.{rules, subst, ◌≡◌, ℕ, Some, slice_get}
use Rattle.terms.specs.declared.parts.Decl.{Decl}
use Rattle.java_shapes.specs.Readable.{AreShort}
use Rattle.java_resolve.proofs.Resolving.{decls_step, decls_end}
use Rattle.java_resolve.proofs.lengths.short_rows.Goals as goal

pub loop-decl-preserved : goal.loop-decl-preserved
loop-decl-preserved c = decls_step c.as_slice-decl-items.result.now c.loop-decl.decl-index c.decl-item.result c.decl-item.is c.loop-decl.invariant (subst (λ z. AreShort z) c.as_slice.ensures c.short_args.ensures)

pub returns : goal.returns
returns c = subst (λ z. (k : ℕ) (d : Decl) → slice_get z k ≡ Some d → AreShort d.args) c.as_slice-decl-items.ensures (decls_end c.as_slice-decl-items.result.now c.loop-decl.decl-index (search rules) c.loop-decl.invariant)
