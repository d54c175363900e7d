use Rattle.std.proofs.Common.{◌∙◌, sym}
use Rattle.java_units.specs.Forms.{modifiers}
use Rattle.java_units.proofs.Walks.{begins_any-at, length-some}
use Rattle.java_units.proofs.forms.begins_modifier.Goals as goal

pub returns-clause-value : goal.returns-clause-value
returns-clause-value c = c.is_modifier.ensures ∙ sym (begins_any-at modifiers c.args.lexemes.now _ (length-some c.args.lexemes.now (sym c.is_empty.ensures ∙ c.if-is_empty.false)))
