use Rattle.std.proofs.Common.{◌≡◌, ◌<◌, ◌≤◌, ℕ, length, get_or, slice_get, Some}
use Rattle.edges.specs.Edges.{Edge}
use Rattle.reconstruction.specs.Totals.{declared_in}
use Rattle.reconstruction.proofs.totals.all_lightest.Given as goal

abbrev pub invariant-loop-state : goal.invariant-loop-state
invariant-loop-state l = record {
  as_many : length l.all ≡ l.state;
  each : (j : ℕ) → j < l.state → (m k : ℕ) (e : Edge) → e.state ≡ j → slice_get l.initial.edges m ≡ Some e → declared_in l.initial.parts e.source ≡ Some k → get_or l.all j 0 ≤ get_or l.initial.totals m 0;
}
