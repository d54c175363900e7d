use Rattle.std.proofs.Common.{◌≡◌, false, take}
use Rattle.succinct.specs.Sets.{has}
use Rattle.edges.proofs.state_edges.has.Given as goal

abbrev pub invariant-loop-one : goal.invariant-loop-one
invariant-loop-one l = has l.initial.goal (take l.one-index l.initial.types) ≡ false
