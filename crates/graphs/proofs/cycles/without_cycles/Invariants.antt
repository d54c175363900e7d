use Rattle.graphs.proofs.Rows.{AreForwardRows}
use Rattle.graphs.proofs.cycles.without_cycles.Given as goal

abbrev pub invariant-loop-node : goal.invariant-loop-node
invariant-loop-node l = AreForwardRows l.graph l.rows l.node
