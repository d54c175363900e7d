use Rattle.graphs.specs.Graph.{IsAcyclicBelow}
use Rattle.graphs.proofs.cycles.least_cycle.Given as goal

abbrev pub invariant-loop-node : goal.invariant-loop-node
invariant-loop-node l = IsAcyclicBelow l.graph l.skip l.node
