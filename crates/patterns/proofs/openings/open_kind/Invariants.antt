use Rattle.std.proofs.Common.{◌<◌, length, take}
use Rattle.succinct.specs.Numbering.{IsGrown}
use Rattle.patterns.specs.States.{AreInRange, AreSetsInRange, IsOpenKind}
use Rattle.patterns.proofs.openings.open_kind.Given as goal

abbrev pub invariant-loop-need : goal.invariant-loop-need
invariant-loop-need l = record {
  open_so_far : IsOpenKind l.initial.sets l.states.keys l.initial.from (take l.need-index l.initial.needs);
  grown : IsGrown l.initial.states.keys l.states.keys;
  in_range : AreSetsInRange l.initial.sets → l.initial.from.set < length l.initial.sets.bound → AreInRange l.initial.sets l.initial.states.keys → AreInRange l.initial.sets l.states.keys;
}
