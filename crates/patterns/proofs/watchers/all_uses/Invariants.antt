use Rattle.std.proofs.Common.{◌≡◌, ◌<◌, ℕ, length, slice_get, Some}
use Rattle.succinct.specs.declared.kind.Succinct.{Succinct}
use Rattle.patterns.specs.Worklist.{AreTargets, AreUsedBy}
use Rattle.patterns.specs.declared.state.State.{State}
use Rattle.patterns.proofs.watchers.all_uses.Given as goal

abbrev pub invariant-loop-place : goal.invariant-loop-place
invariant-loop-place l = record {
  used : (place k : ℕ) (s : State) (kind : Succinct) → place < l.place → slice_get l.initial.states.keys place ≡ Some s → slice_get l.initial.kinds.all.now k ≡ Some kind → kind.result ≡ s.goal → AreUsedBy l.initial.sets l.initial.states.keys l.uses.items s place k kind.needs;
  in_range : AreTargets (length l.initial.states.keys) l.uses.items;
}
