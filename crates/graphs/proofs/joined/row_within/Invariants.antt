use Rattle.std.proofs.Common.{ℕ, take, Contains}
use Rattle.graphs.proofs.joined.row_within.Given as goal

abbrev pub invariant-loop-next : goal.invariant-loop-next
invariant-loop-next l = (b : ℕ) → Contains l.kept b → Contains (take l.next-index l.nodes) b
