use Rattle.std.proofs.Common.{◌∙◌, sym}
use Rattle.std.proofs.lemmas.Bool.{false≢true}
use Rattle.java_resolve.proofs.VariableRows.{value_is, value_other, value_none}
use Rattle.java_resolve.proofs.variables.decimal_value.Goals as goal

pub returns-then-is_text-clause-some : goal.returns-then-is_text-clause-some
returns-then-is_text-clause-some c = value_is c.args.digits.now c.in-Ok.number c.in-Ok.ensures.value.0 (c.in_ok-is_text-in-Ok.ensures.0 c.if-is_text.true)

pub returns-else-is_text-clause-none : goal.returns-else-is_text-clause-none
returns-else-is_text-clause-none c = value_other c.args.digits.now c.utf8.digits c.in-Ok.number c.in-Ok.ensures.value.0 (λ e. absurd (false≢true (sym c.if-is_text.false ∙ c.in_ok-is_text-in-Ok.ensures.1 e)))

pub returns-in-Err-clause-none : goal.returns-in-Err-clause-none
returns-in-Err-clause-none c = value_none c.args.digits.now c.utf8.digits c.in-Err.ensures.value.0
