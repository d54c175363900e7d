use Rattle.std.proofs.Common.{◌≡◌, take, filter}
use Rattle.patterns.specs.States.{kind_marked}
use Rattle.patterns.proofs.marks.kinds_met.Given as goal

abbrev pub invariant-loop-kind : goal.invariant-loop-kind
invariant-loop-kind l = l.met.items ≡ filter (λ k. kind_marked l.initial.sets l.initial.kinds l.initial.states.keys l.initial.marks l.initial.from k) (take l.kind-index l.initial.ending)
