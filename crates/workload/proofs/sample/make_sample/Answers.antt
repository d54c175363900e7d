use Rattle.std.proofs.Common.{arith, ap, length}
use Rattle.workload.proofs.Drawing.{text_short}
use Rattle.workload.proofs.sample.make_sample.Goals as goal

pub overflow_cast-place : goal.overflow_cast-place
overflow_cast-place c = omega (arith, c.len-place.ensures, ap length c.in_ok-source.ensures, text_short c.draw-goal.result (omega (arith, c.draw-goal.ensures.below)))
