use Rattle.std.proofs.Common.{◌≡◌, ◌≤◌, ◌-◌, length, drop}
use Rattle.checker.specs.Checks.{variables_reach}
use Rattle.checker.proofs.reaches.variables_reach.Given as goal

abbrev pub invariant-loop-i : goal.invariant-loop-i
invariant-loop-i l = record {
  within : l.i ≤ length l.set;
  same : variables_reach l.env l.floor l.set ≡ variables_reach l.env l.floor (drop l.i l.set);
}

abbrev pub decreases-loop-i : goal.decreases-loop-i
decreases-loop-i l = length l.set - l.i
