use Rattle.std.proofs.Common.{◌≡◌, true, take}
use Rattle.std.specs.List.{list_all}
use Rattle.patterns.specs.States.{need_marked}
use Rattle.patterns.proofs.marks.needs_are_met.Given as goal

abbrev pub invariant-loop-need : goal.invariant-loop-need
invariant-loop-need l = list_all (λ n. need_marked l.initial.sets l.initial.states.keys l.initial.marks l.initial.from n) (take l.need-index l.initial.needs) ≡ true
