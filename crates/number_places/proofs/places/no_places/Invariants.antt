use Rattle.std.proofs.Common.{◌≡◌, ◌<◌, ℕ, [], map, length, slice_get, Some}
use Rattle.number_places.proofs.places.no_places.Given as goal

abbrev pub invariant-loop-i : goal.invariant-loop-i
invariant-loop-i l = record {
  as_many : length l.lists.items ≡ l.i;
  empty : (k : ℕ) → k < l.i → slice_get (map (λ v. v.items) l.lists.items) k ≡ Some [];
}
