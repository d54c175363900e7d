use Rattle.std.proofs.Common.{◌∙◌, sym}
use Rattle.java_units.specs.Words.{texts}
use Rattle.java_units.proofs.Walks.{begins_any-at, length-some}
use Rattle.java_units.proofs.lexemes.begins_any.Goals as goal

pub returns-clause-value : goal.returns-clause-value
returns-clause-value c = c.has.ensures ∙ sym (begins_any-at (texts c.args.table.now) c.args.lexemes.now _ (length-some c.args.lexemes.now (sym c.is_empty.ensures ∙ c.if-is_empty.false)))
