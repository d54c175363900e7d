use Rattle.std.proofs.Common.{ℕ, ◌<◌, take, Contains}
use Rattle.graphs.proofs.reach.are_below.Given as goal

abbrev pub invariant-loop-node : goal.invariant-loop-node
invariant-loop-node l = (b : ℕ) → Contains (take l.node-index l.nodes) b → b < l.bound
