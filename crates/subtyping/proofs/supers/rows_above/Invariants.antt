use Rattle.std.proofs.Common.{length}
use Rattle.graphs.specs.Graph.{AreFree}
use Rattle.subtyping.proofs.Searching.{AreRowsBelow}
use Rattle.subtyping.proofs.supers.rows_above.Given as goal

abbrev pub invariant-loop-node : goal.invariant-loop-node
invariant-loop-node l = record {
  rows : AreRowsBelow l.graph l.rows l.node;
  free : AreFree (length l.graph) l.marks.items;
}
