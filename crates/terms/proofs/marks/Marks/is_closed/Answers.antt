use Rattle.std.proofs.Common.{arith, rules}
use Rattle.terms.specs.Table.{row_at}
use Rattle.terms.proofs.Closings.{within-step, has-nil}
use Rattle.terms.proofs.marks.Marks.is_closed.Goals as goal

pub loop-upper-init : goal.loop-upper-init
loop-upper-init c = record { right = c.look_at_nearest.ensures.right; within = λ b h. absurd (has-nil b h) }

pub loop-upper-preserved : goal.loop-upper-preserved
loop-upper-preserved c = record {
  right = c.is_within.ensures.right;
  within = within-step c.args.rows.now (row_at c.args.rows.now c.args.lower) c.row-upper-items.result.now c.loop-upper.upper-index c.args.lower c.row-upper-items.ensures.row (omega arith) c.loop-upper.invariant.within (c.is_within.ensures.within (search rules));
}
