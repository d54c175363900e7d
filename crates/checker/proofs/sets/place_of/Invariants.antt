use Rattle.std.proofs.Common.{◌≡◌, ◌≤◌, ◌-◌, ◌++◌, length, take, drop}
use Rattle.checker.specs.Floors.{with_type}
use Rattle.checker.proofs.sets.place_of.Given as goal

abbrev pub invariant-loop-i : goal.invariant-loop-i
invariant-loop-i l = record {
  within : l.i ≤ length l.set;
  before : with_type l.a l.set ≡ take l.i l.set ++ with_type l.a (drop l.i l.set);
}

abbrev pub decreases-loop-i : goal.decreases-loop-i
decreases-loop-i l = length l.set - l.i
