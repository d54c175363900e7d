use Rattle.std.proofs.Common.{rules}
use Rattle.class_summary.proofs.Rows.{row_hit, row_on, row_end}
use Rattle.class_summary.proofs.shape.nesting_in.Goals as goal

pub returns-then-same : goal.returns-then-same
returns-then-same c = row_hit c.args.name.now c.args.rows.now c.loop-i.i c.index-rows-i.result _ (search rules) (search rules) (c.same.ensures.0 c.if-same.true) c.in_ok-nesting.ensures c.loop-i.invariant

pub loop-i-preserved : goal.loop-i-preserved
loop-i-preserved c = row_on c.args.name.now c.args.rows.now c.loop-i.i c.index-rows-i.result (search rules) (search rules) (λ e. let t = c.same.ensures.1 e in cc) c.loop-i.invariant

pub returns : goal.returns
returns c = row_end c.args.name.now c.args.rows.now c.loop-i.i (search rules) c.loop-i.invariant
