use Rattle.std.proofs.Common.{◌≤◌, ◌-◌, length, take, drop}
use Rattle.std.specs.List.{AllByRecursion}
use Rattle.type_names.specs.Descriptors.{field}
use Rattle.offers.proofs.Searches.{IsPast, IsAhead}
use Rattle.scopes.proofs.numbers.place_in.Given as goal

abbrev pub invariant-loop-low : goal.invariant-loop-low
invariant-loop-low l = record {
  ordered : l.low ≤ l.high;
  within : l.high ≤ length l.types;
  past : AllByRecursion (IsPast field (field l.kind)) (take l.low l.types);
  ahead : AllByRecursion (IsAhead field (field l.kind)) (drop l.high l.types);
}

abbrev pub decreases-loop-low : goal.decreases-loop-low
decreases-loop-low l = l.high - l.low
