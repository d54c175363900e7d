use Rattle.std.proofs.Common.{◌+◌, length}
use Rattle.graphs.proofs.Marks.{IsSearch, free}
use Rattle.graphs.proofs.reach.reached.Given as goal

abbrev pub invariant-loop-node : goal.invariant-loop-node
invariant-loop-node l = IsSearch l.graph l.from l.marks.items l.worklist.items

abbrev pub decreases-loop-node : goal.decreases-loop-node
decreases-loop-node l = free l.marks.items + length l.worklist.items
