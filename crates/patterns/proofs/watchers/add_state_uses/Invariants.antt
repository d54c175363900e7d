use Rattle.std.proofs.Common.{◌≡◌, ℕ, true, take, length, slice_get, Some}
use Rattle.succinct.specs.Numbering.{IsGrown}
use Rattle.succinct.specs.Sets.{has}
use Rattle.succinct.specs.declared.kind.Succinct.{Succinct}
use Rattle.patterns.specs.Worklist.{AreTargets, AreUsedBy}
use Rattle.patterns.proofs.watchers.add_state_uses.Given as goal

abbrev pub invariant-loop-kind : goal.invariant-loop-kind
invariant-loop-kind l = record {
  used : (k : ℕ) (found : Succinct) → has k (take l.kind-index l.initial.ending) ≡ true → slice_get l.initial.kinds k ≡ Some found → AreUsedBy l.initial.sets l.initial.states.keys l.uses.items l.initial.from l.initial.place k found.needs;
  grown : IsGrown l.initial.uses.items l.uses.items;
  in_range : AreTargets (length l.initial.states.keys) l.initial.uses.items → AreTargets (length l.initial.states.keys) l.uses.items;
}
