use Rattle.std.proofs.Common.{◌≡◌, ◌≢◌, ◌≤◌, ◌-◌, map, length, take, drop, Less}
use Rattle.std.specs.Arc.{arc_value}
use Rattle.std.specs.List.{AllByRecursion}
use Rattle.decl_index.specs.History.{order}
use Rattle.decl_index.proofs.sorted_classes.place.Given as goal

abbrev pub invariant-loop-low : goal.invariant-loop-low
invariant-loop-low l = record {
  ordered : l.low ≤ l.high;
  within : l.high ≤ length l.classes;
  below : AllByRecursion (λ c. order c.name l.name ≡ Less) (take l.low (map arc_value l.classes));
  above : AllByRecursion (λ c. order c.name l.name ≢ Less) (drop l.high (map arc_value l.classes));
}

abbrev pub decreases-loop-low : goal.decreases-loop-low
decreases-loop-low l = l.high - l.low
