use Rattle.std.proofs.Common.{sym, ◌∙◌}
use Rattle.java_units.proofs.Walks.{length-some}
use Rattle.java_units.proofs.Lists.{closed_none, closed_some}
use Rattle.java_units.proofs.members.closed.Goals as goal

pub returns-then-is_empty : goal.returns-then-is_empty
returns-then-is_empty c = c.in_ok-end.ensures ∙ closed_none c.args.count c.args.lexemes.now (sym c.is_empty.ensures ∙ c.if-is_empty.true)

pub returns : goal.returns
returns c = c.in_ok-end-2.ensures ∙ closed_some c.args.count c.args.lexemes.now _ (length-some c.args.lexemes.now (sym c.is_empty.ensures ∙ c.if-is_empty.false))
