use Rattle.std.proofs.Common.{◌≡◌, ◌+◌, ◌<◌, ℕ, length, get_or, slice_get, Some}
use Rattle.edges.specs.Edges.{Edge}
use Rattle.reconstruction.specs.Totals.{IsTotal, least_total}
use Rattle.reconstruction.proofs.totals.all_totals.Given as goal

abbrev pub invariant-loop-edge : goal.invariant-loop-edge
invariant-loop-edge l = record {
  as_many : length l.totals ≡ l.edge;
  each : (m : ℕ) → m < l.edge → (e : Edge) → slice_get l.initial.edges m ≡ Some e → IsTotal l.initial.env.limit (e.weight + least_total l.initial.env.limit l.initial.least e.tails) (get_or l.totals m 0);
}
