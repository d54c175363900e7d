use Rattle.std.proofs.Common.{[], ◌∷◌, false, ◌≡◌, ◌≤◌, ◌-◌, length}
use Rattle.class_pool.specs.Reading.{entries_at}
use Rattle.class_pool.specs.Index.{after}
use Rattle.class_pool.specs.Reading.{IsBytes}
use Rattle.class_pool.proofs.reading.index_entries.Given as goal

abbrev pub invariant-loop-place : goal.invariant-loop-place
invariant-loop-place l = record {
  within : length l.rest ≤ l.total;
  fits : IsBytes l.rest;
  so_far : after l.starts.items (l.total - length l.rest) (entries_at l.total l.skip (l.count - l.place) l.rest) ≡ after (0 ∷ []) (l.total - length l.bytes) (entries_at l.total false (l.count - 1) l.bytes);
}
