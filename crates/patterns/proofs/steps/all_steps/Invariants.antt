use Rattle.std.proofs.Common.{◌≡◌, [], length, slice_get, Some}
use Rattle.patterns.specs.States.{AreBound, AreSteps}
use Rattle.patterns.proofs.steps.all_steps.Given as goal

abbrev pub invariant-loop-k : goal.invariant-loop-k
invariant-loop-k l = record {
  long : length l.rows.items ≡ l.k;
  first : slice_get l.bound.keys 0 ≡ Some (record { types = []; left = l.depth });
  bound : AreBound l.depth l.needs l.bound.keys;
  steps : AreSteps l.needs l.bound.keys l.rows.items l.k;
}
