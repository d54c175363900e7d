use Rattle.std.proofs.Common.{arith}
use Rattle.documents.proofs.Moves.{moved-all}
use Rattle.documents.proofs.starts.shift.Goals as goal

pub returns : goal.returns
returns c = moved-all c.args.from c.args.to c.args.starts.now c.loop-start.starts c.loop-start.auto.starts (λ k lt. c.loop-start.invariant.moved k (omega (arith, lt, c.loop-start-test.false)))
