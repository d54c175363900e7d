use Rattle.std.proofs.Common.{take}
use Rattle.graphs.specs.Graph.{Reaches}
use Rattle.graphs.proofs.Rows.{AreKept}
use Rattle.graphs.proofs.cycles.forward_row.Given as goal

abbrev pub invariant-loop-next : goal.invariant-loop-next
invariant-loop-next l = AreKept (λ b. Reaches l.numbered.graph.now b l.node) (take l.next-index l.nodes) l.kept
