use Rattle.std.proofs.Common.{sym, ◌∙◌}
use Rattle.java_resolve.proofs.BinderWords.{digits_none, digits_all}
use Rattle.java_resolve.proofs.binder.are_digits.Goals as goal

pub returns-then-is_empty : goal.returns-then-is_empty
returns-then-is_empty c = digits_none c.args.text.now (sym c.is_empty.ensures ∙ c.if-is_empty.true)

pub returns : goal.returns
returns c = digits_all c.args.text.now c.are_all_digits.result c.utf8.text (sym c.is_empty.ensures ∙ c.if-is_empty.false) c.are_all_digits.ensures
