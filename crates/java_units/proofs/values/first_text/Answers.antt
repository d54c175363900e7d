use Rattle.std.proofs.Common.{sym, ◌∙◌}
use Rattle.java_units.proofs.Walks.{length-some}
use Rattle.java_units.proofs.Lists.{first_none, first_some}
use Rattle.java_units.proofs.values.first_text.Goals as goal

pub returns-then-is_empty : goal.returns-then-is_empty
returns-then-is_empty c = record { value = first_none c.args.lexemes.now (sym c.is_empty.ensures ∙ c.if-is_empty.true) }

pub returns : goal.returns
returns c = record { value = first_some c.args.lexemes.now _ (length-some c.args.lexemes.now (sym c.is_empty.ensures ∙ c.if-is_empty.false)) }
