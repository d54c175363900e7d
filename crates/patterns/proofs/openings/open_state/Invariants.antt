use Rattle.std.proofs.Common.{◌<◌, length, take}
use Rattle.succinct.specs.Numbering.{IsGrown}
use Rattle.patterns.specs.States.{AreInRange, AreSetsInRange, IsOpenState}
use Rattle.patterns.proofs.openings.open_state.Given as goal

abbrev pub invariant-loop-kind : goal.invariant-loop-kind
invariant-loop-kind l = record {
  open_so_far : IsOpenState l.initial.sets l.initial.kinds l.states.keys l.initial.from (take l.kind-index l.initial.ending);
  grown : IsGrown l.initial.states.keys l.states.keys;
  in_range : AreSetsInRange l.initial.sets → l.initial.from.set < length l.initial.sets.bound → AreInRange l.initial.sets l.initial.states.keys → AreInRange l.initial.sets l.states.keys;
}
