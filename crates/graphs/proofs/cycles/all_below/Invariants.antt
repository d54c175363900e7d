use Rattle.std.proofs.Common.{◌≡◌, drop}
use Rattle.graphs.specs.Numbers.{all_below}
use Rattle.graphs.proofs.cycles.all_below.Given as goal

abbrev pub invariant-loop-node : goal.invariant-loop-node
invariant-loop-node l = all_below l.numbers l.bound (drop l.node-index l.nodes) ≡ all_below l.numbers l.bound l.nodes
