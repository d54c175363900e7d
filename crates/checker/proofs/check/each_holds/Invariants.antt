use Rattle.std.proofs.Common.{◌≡◌, ◌<◌, ◌-◌, ℕ, length, slice_get, Some}
use Rattle.checker.specs.declared.floor.Floor.{Floor}
use Rattle.checker.specs.Floors.{IsFloor}
use Rattle.checker.proofs.check.each_holds.Given as goal

abbrev pub invariant-loop-i : goal.invariant-loop-i
invariant-loop-i l = record {
  so_far : (k : ℕ) (f : Floor) → k < l.i → slice_get l.floors k ≡ Some f → IsFloor l.env l.table f;
}

abbrev pub decreases-loop-i : goal.decreases-loop-i
decreases-loop-i l = length l.floors - l.i
