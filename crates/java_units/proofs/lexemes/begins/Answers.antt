use Rattle.std.proofs.Common.{◌∙◌, sym}
use Rattle.java_units.proofs.Walks.{begins-at, length-some}
use Rattle.java_units.proofs.lexemes.begins.Goals as goal

pub returns-clause-value : goal.returns-clause-value
returns-clause-value c = c.is.ensures.value ∙ sym (begins-at c.args.word.now c.args.lexemes.now _ (length-some c.args.lexemes.now (sym c.is_empty.ensures ∙ c.if-is_empty.false)))
