use Rattle.std.proofs.Common.{◌≡◌, ◌<◌, ℕ, map, take, length, slice_get, Some}
use Rattle.number_places.specs.Places.{places_of}
use Rattle.number_places.proofs.places.places_by_number.Given as goal

abbrev pub invariant-loop-i : goal.invariant-loop-i
invariant-loop-i l = record {
  as_many : length l.lists.items ≡ l.initial.count;
  each : (k : ℕ) → k < l.initial.count → slice_get (map (λ v. v.items) l.lists.items) k ≡ Some (places_of k (take l.i l.initial.numbers));
}
