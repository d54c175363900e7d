use Rattle.std.proofs.Common.{◌≡◌, ◌⊎◌, ◌≤◌, ℕ, length, slice_get, Some}
use Rattle.succinct.specs.Numbering.{IsGrown}
use Rattle.patterns.specs.States.{ArePlaced, IsBinding}
use Rattle.patterns.specs.declared.bound_set.BoundSet.{BoundSet}
use Rattle.patterns.proofs.steps.row_of.Given as goal

abbrev pub invariant-loop-n : goal.invariant-loop-n
invariant-loop-n l = record {
  long : length l.row ≡ l.n;
  placed : ArePlaced l.needs l.outer l.bound.keys l.row l.n;
  grown : IsGrown l.initial.bound.keys l.bound.keys;
  only : (k : ℕ) (set : BoundSet) → slice_get l.bound.keys k ≡ Some set → (slice_get l.initial.bound.keys k ≡ Some set) ⊎ ((length l.initial.bound.keys ≤ k) × IsBinding l.needs l.outer set);
}
