use Rattle.std.proofs.Common.{◌≡◌}
use Rattle.reconstruction.specs.Usable.{usable_below}
use Rattle.reconstruction.proofs.usable.gather.Given as goal

abbrev pub invariant-loop-edge : goal.invariant-loop-edge
invariant-loop-edge l = l.row.items ≡ usable_below l.initial.limit l.initial.floors l.initial.edges l.initial.state l.edge
