use Rattle.std.proofs.Common.{◌≡◌, ◌≤◌, true, length, drop}
use Rattle.checker.specs.Floors.{are_apart}
use Rattle.checker.specs.States.{IsTable}
use Rattle.checker.proofs.floor_table.map_of.Given as goal

abbrev pub invariant-loop-i : goal.invariant-loop-i
invariant-loop-i l = record {
  within : l.i ≤ length l.floors;
  apart : are_apart (drop l.i l.floors) ≡ true;
  table : IsTable (drop l.i l.floors) l.map;
}

abbrev pub decreases-loop-i : goal.decreases-loop-i
decreases-loop-i l = l.i
