use Rattle.std.proofs.Common.{◌≡◌, ◌<◌, ℕ, [], length, get_or}
use Rattle.reconstruction.specs.Usable.{IsUsable}
use Rattle.reconstruction.proofs.usable.all_usable.Given as goal

abbrev pub invariant-loop-state : goal.invariant-loop-state
invariant-loop-state l = record {
  as_many : length l.rows ≡ l.state;
  each : (i : ℕ) → i < l.state → IsUsable l.initial.limit l.initial.floors l.initial.edges i (get_or l.rows i []);
}
