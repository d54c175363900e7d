use Rattle.std.proofs.Common.{◌≡◌, false, take}
use Rattle.std.specs.List.{list_any}
use Rattle.patterns.specs.States.{kind_marked}
use Rattle.patterns.proofs.marks.some_kind_is_met.Given as goal

abbrev pub invariant-loop-kind : goal.invariant-loop-kind
invariant-loop-kind l = list_any (λ k. kind_marked l.initial.sets l.initial.kinds l.initial.states.keys l.initial.marks l.initial.from k) (take l.kind-index l.initial.ending) ≡ false
