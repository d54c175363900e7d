use Rattle.std.proofs.Common.{ℕ, ◌<◌, length, Contains}
use Rattle.graphs.specs.Graph.{edges}
use Rattle.graphs.proofs.reach.is_in_range.Given as goal

abbrev pub invariant-loop-node : goal.invariant-loop-node
invariant-loop-node l = (a b : ℕ) → a < l.node → Contains (edges l.graph a) b → b < length l.graph
