use Rattle.std.proofs.Common.{◌∙◌}
use Rattle.reconstruction.proofs.Rows.{row-other, row-fun, row-plain}
use Rattle.reconstruction.proofs.heads.lambdas_by.Goals as goal

pub returns-then-args-ne1 : goal.returns-then-args-ne1
returns-then-args-ne1 c = record { value = row-other _ c.args.lambdas c.args.decl c.if-args-ne1.true }

pub returns-in-Fun : goal.returns-in-Fun
returns-in-Fun c = record { value = c.with_lambda.ensures.value ∙ row-fun _ c.index-args-0.result c.in-Fun.field-0 c.in-Fun.field-1 c.args.lambdas c.args.decl c.if-args-ne1.false c.index-args-0.is c.in-Fun.is }

pub returns-in-Plain : goal.returns-in-Plain
returns-in-Plain c = record { value = row-plain _ c.index-args-0.result c.in-Plain.field-0 c.args.lambdas c.args.decl c.if-args-ne1.false c.index-args-0.is c.in-Plain.is }
