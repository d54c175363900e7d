use Rattle.std.proofs.Common.{◌≡◌, length, drop}
use Rattle.graphs.specs.Marking.{unmark}
use Rattle.graphs.proofs.reach.unmark.Given as goal

abbrev pub invariant-loop-node : goal.invariant-loop-node
invariant-loop-node l = record {
  long : length l.marks.items ≡ length l.fn.marks.items;
  marks : unmark l.marks.items (drop l.node-index l.nodes) ≡ unmark l.fn.marks.items l.nodes;
}
