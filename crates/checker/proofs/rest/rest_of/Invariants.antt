use Rattle.std.proofs.Common.{◌≡◌, ◌≤◌, ◌-◌, length, drop}
use Rattle.checker.specs.Floors.{args_floor, top}
use Rattle.checker.proofs.rest.rest_of.Given as goal

abbrev pub invariant-loop-i : goal.invariant-loop-i
invariant-loop-i l = record {
  within : l.i ≤ length l.args;
  low : l.rest ≤ top l.env;
  same : l.most - args_floor l.env l.floors l.set l.left l.args ≡ l.rest - args_floor l.env l.floors l.set l.left (drop l.i l.args);
}

abbrev pub decreases-loop-i : goal.decreases-loop-i
decreases-loop-i l = length l.args - l.i
