use Rattle.std.proofs.Common.{length}
use Rattle.graphs.specs.Graph.{AreFree}
use Rattle.graphs.specs.Joined.{AreRooted}
use Rattle.graphs.proofs.joined.rooted.Given as goal

abbrev pub invariant-loop-node : goal.invariant-loop-node
invariant-loop-node l = record {
  free : AreFree (length l.graph) l.lent.items;
  rooted : AreRooted l.graph l.roots l.marks.items;
}
