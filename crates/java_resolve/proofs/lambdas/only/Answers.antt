use Rattle.std.proofs.Common.{ap, length}
use Rattle.java_resolve.proofs.LambdaRows.{one_item}
use Rattle.java_resolve.proofs.lambdas.only.Goals as goal

pub returns-then-args-ne1-clause-none : goal.returns-then-args-ne1-clause-none
returns-then-args-ne1-clause-none c = λ a e. c.if-args-ne1.true (ap length e)

pub returns-clause-some : goal.returns-clause-some
returns-clause-some c = one_item c.args.args.now c.index-args-0.result c.if-args-ne1.false c.index-args-0.is
