use Rattle.std.proofs.Common.{◌≤◌, ◌-◌, length, take, drop}
use Rattle.std.specs.List.{AllByRecursion}
use Rattle.offers.proofs.Searches.{IsPast, IsAhead}
use Rattle.offers.proofs.key_order.place.Given as goal

abbrev pub invariant-loop-low : goal.invariant-loop-low
invariant-loop-low g l = record {
  ordered : l.low ≤ l.high;
  within : l.high ≤ length l.all.items;
  past : AllByRecursion (IsPast g.T.Keyed.key_of (g.T.Keyed.key_of l.item)) (take l.low l.all.items);
  ahead : AllByRecursion (IsAhead g.T.Keyed.key_of (g.T.Keyed.key_of l.item)) (drop l.high l.all.items);
}

abbrev pub decreases-loop-low : goal.decreases-loop-low
decreases-loop-low g l = l.high - l.low
