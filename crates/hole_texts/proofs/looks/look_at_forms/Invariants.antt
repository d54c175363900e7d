use Rattle.std.proofs.Common.{IsUtf8}
use Rattle.scopes.specs.Binders.{form_text}
use Rattle.hole_texts.proofs.Each.{HoldsTo}
use Rattle.hole_texts.proofs.looks.look_at_forms.Given as goal

abbrev pub invariant-loop-decl : goal.invariant-loop-decl
invariant-loop-decl l = HoldsTo (λ d. IsUtf8 (form_text d.form)) l.decl-index l.decls
