use Rattle.std.proofs.Common.{ℕ, ◌<◌, ◌≤◌, Contains}
use Rattle.graphs.specs.Graph.{edges}
use Rattle.graphs.specs.Numbers.{number_of}
use Rattle.graphs.proofs.cycles.never_rises.Given as goal

abbrev pub invariant-loop-node : goal.invariant-loop-node
invariant-loop-node l = (a b : ℕ) → a < l.node → Contains (edges l.graph a) b → number_of l.numbers b ≤ number_of l.numbers a
