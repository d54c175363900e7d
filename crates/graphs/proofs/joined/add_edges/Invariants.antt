use Rattle.std.proofs.Common.{take}
use Rattle.graphs.proofs.Turning.{AreAdded}
use Rattle.graphs.proofs.joined.add_edges.Given as goal

abbrev pub invariant-loop-node : goal.invariant-loop-node
invariant-loop-node l = AreAdded l.fn.rows.items l.rows.items (take l.node-index l.nodes) l.to
