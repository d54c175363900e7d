use Rattle.std.proofs.Common.{◌≡◌, ◌<◌, ℕ, slice_get, Some}
use Rattle.patterns.specs.States.{AreInRange, AreSetsInRange, IsOpenState, kinds_of}
use Rattle.patterns.specs.declared.state.State.{State}
use Rattle.succinct.specs.Numbering.{IsGrown}
use Rattle.patterns.proofs.reachable.explore.Given as goal

abbrev pub invariant-loop-i : goal.invariant-loop-i
invariant-loop-i l = record {
  grown : IsGrown l.initial.states.keys l.states.keys;
  in_range : AreSetsInRange l.initial.sets → AreInRange l.initial.sets l.initial.states.keys → AreInRange l.initial.sets l.states.keys;
  opened : (j : ℕ) (s : State) → j < l.i → slice_get l.states.keys j ≡ Some s → IsOpenState l.initial.sets l.initial.kinds.all.now l.states.keys s (kinds_of l.initial.kinds.all.now s.goal);
}
