use Rattle.std.proofs.Common.{rules, IsUtf8}
use Rattle.scopes.specs.Binders.{form_text}
use Rattle.hole_texts.proofs.Each.{holds_step, holds_end}
use Rattle.hole_texts.proofs.looks.look_at_forms.Goals as goal

pub loop-decl-preserved : goal.loop-decl-preserved
loop-decl-preserved c = holds_step (λ d. IsUtf8 (form_text d.form)) c.args.decls.now c.loop-decl.decl-index c.decl-item.result c.decl-item.is c.loop-decl.invariant c.look_at_form.ensures

pub returns : goal.returns
returns c = holds_end (λ d. IsUtf8 (form_text d.form)) c.args.decls.now c.loop-decl.decl-index (search rules) c.loop-decl.invariant
