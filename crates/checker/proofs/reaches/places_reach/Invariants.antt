use Rattle.std.proofs.Common.{◌≡◌, ◌≤◌, ◌-◌, length, drop}
use Rattle.checker.specs.Checks.{places_reach}
use Rattle.checker.proofs.reaches.places_reach.Given as goal

abbrev pub invariant-loop-i : goal.invariant-loop-i
invariant-loop-i l = record {
  within : l.i ≤ length l.numbers;
  same : places_reach l.env l.floors l.floor l.numbers ≡ places_reach l.env l.floors l.floor (drop l.i l.numbers);
}

abbrev pub decreases-loop-i : goal.decreases-loop-i
decreases-loop-i l = length l.numbers - l.i
