use Rattle.std.proofs.Common.{◌∙◌, sym}
use Rattle.java_units.proofs.Walks.{begins_name-at, length-some}
use Rattle.java_units.proofs.lexemes.begins_name.Goals as goal

pub returns-clause-value : goal.returns-clause-value
returns-clause-value c = sym (begins_name-at c.args.lexemes.now _ (length-some c.args.lexemes.now (sym c.is_empty.ensures ∙ c.if-is_empty.false)))
