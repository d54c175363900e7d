use Rattle.graphs.proofs.Turning.{AreTurnedRows}
use Rattle.graphs.proofs.joined.turned.Given as goal

abbrev pub invariant-loop-node : goal.invariant-loop-node
invariant-loop-node l = AreTurnedRows l.graph l.rows.items
