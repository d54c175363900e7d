use Rattle.std.proofs.Common.{◌∙◌, sym}
use Rattle.java_resolve.specs.View.{shape_view}
use Rattle.java_resolve.proofs.Closings.{along, grouped_some, grouped_none}
use Rattle.java_resolve.proofs.closing.grouped.Goals as goal

pub returns-then-needs_brackets : goal.returns-then-needs_brackets
returns-then-needs_brackets c = λ a. along c.in_brackets.result a _ _ (grouped_some a c.args.outer c.args.cast (shape_view c.args.receiver) (sym c.needs_brackets.ensures ∙ c.if-needs_brackets.true)) (c.in_brackets.ensures a)

pub returns-else-needs_brackets : goal.returns-else-needs_brackets
returns-else-needs_brackets c = λ a. grouped_none a c.args.outer c.args.cast (shape_view c.args.receiver) (sym c.needs_brackets.ensures ∙ c.if-needs_brackets.false)
