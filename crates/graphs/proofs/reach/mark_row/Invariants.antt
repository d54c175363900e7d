use Rattle.std.proofs.Common.{◌≡◌, length, drop}
use Rattle.graphs.specs.Marking.{mark_row, AreListed}
use Rattle.graphs.proofs.reach.mark_row.Given as goal

abbrev pub invariant-loop-node : goal.invariant-loop-node
invariant-loop-node l = record {
  work : mark_row (l.marks.items, l.worklist.items) (drop l.node-index l.nodes) ≡ mark_row (l.fn.marks.items, l.fn.worklist.items) l.nodes;
  long : length l.marks.items ≡ length l.fn.marks.items;
  listed : AreListed l.fn.marks.items l.fn.worklist.items → AreListed l.marks.items l.worklist.items;
}
