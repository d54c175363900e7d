use Rattle.std.proofs.Common.{arith}
use Rattle.terms.proofs.Closings.{marks-step}
use Rattle.terms.proofs.marks.put_marks.Goals as goal

pub loop-upper-preserved : goal.loop-upper-preserved
loop-upper-preserved c = marks-step c.args.row.now _ _ _ c.loop-upper.upper-index _ (omega arith) c.loop-upper.invariant c.put_mark.ensures
