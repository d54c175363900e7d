use Rattle.std.proofs.Common.{◌∙◌}
use Rattle.reconstruction.proofs.Bound.{not_one, one_fun, one_plain}
use Rattle.reconstruction.proofs.variables.only_row.Goals as goal

pub returns-then-args-ne1 : goal.returns-then-args-ne1
returns-then-args-ne1 c = record { value = not_one _ c.if-args-ne1.true }

pub returns-in-Fun : goal.returns-in-Fun
returns-in-Fun c = record { value = c.as_slice.ensures ∙ one_fun _ c.index-args-0.result c.in-Fun.params c.in-Fun.field-1 c.if-args-ne1.false c.index-args-0.is c.in-Fun.is }

pub returns-in-Plain : goal.returns-in-Plain
returns-in-Plain c = record { value = one_plain _ c.index-args-0.result c.in-Plain.field-0 c.if-args-ne1.false c.index-args-0.is c.in-Plain.is }
