use Rattle.std.proofs.Common.{◌≤◌, ◌<◌, ◌+◌, ◌-◌, ℕ, length}
use Rattle.std.specs.Prelude.{slice_index}
use Rattle.checker.proofs.reaches.rises.Given as goal

abbrev pub invariant-loop-i : goal.invariant-loop-i
invariant-loop-i l = record {
  from : 1 ≤ l.i;
  so_far : (k : ℕ) → k + 1 < l.i → k + 1 < length l.set → slice_index l.set k < slice_index l.set (k + 1);
}

abbrev pub decreases-loop-i : goal.decreases-loop-i
decreases-loop-i l = length l.set - l.i
