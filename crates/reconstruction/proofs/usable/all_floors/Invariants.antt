use Rattle.std.proofs.Common.{◌≡◌, ◌<◌, ℕ, length, get_or, slice_get, Some}
use Rattle.edges.specs.Edges.{Edge}
use Rattle.reconstruction.specs.Usable.{IsFloor}
use Rattle.reconstruction.proofs.usable.all_floors.Given as goal

abbrev pub invariant-loop-edge : goal.invariant-loop-edge
invariant-loop-edge l = record {
  as_many : length l.floors ≡ l.edge;
  each : (m : ℕ) → m < l.edge → (e : Edge) → slice_get l.initial.edges m ≡ Some e → IsFloor l.initial.env l.initial.edges l.initial.totals m e (get_or l.floors m 0);
}
