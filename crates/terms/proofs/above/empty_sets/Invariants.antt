use Rattle.std.proofs.Common.{◌≡◌, ℕ, [], length, map}
use Rattle.std.specs.BTreeSet.{keys}
use Rattle.terms.specs.Table.{row_at}
use Rattle.terms.proofs.above.empty_sets.Given as goal

abbrev pub invariant-loop : goal.invariant-loop
invariant-loop l = record {
  len : length l.sets.items ≡ l.counter;
  empty : (a : ℕ) → row_at (map keys l.sets.items) a ≡ [];
}
