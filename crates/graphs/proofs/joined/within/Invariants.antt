use Rattle.graphs.proofs.Turning.{ArePartRows}
use Rattle.graphs.proofs.joined.within.Given as goal

abbrev pub invariant-loop-node : goal.invariant-loop-node
invariant-loop-node l = ArePartRows l.graph l.rows.items l.node
