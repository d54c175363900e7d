use Rattle.std.proofs.Common.{◌≡◌, ◌<◌, ◌≤◌, ℕ, true, length, map, slice_get, Some, take}
use Rattle.succinct.specs.Compression.{need_of}
use Rattle.succinct.specs.Numbering.{IsGrown}
use Rattle.succinct.specs.Sets.{has}
use Rattle.succinct.proofs.compressing.need_numbers.Given as goal

abbrev pub invariant-loop-arg : goal.invariant-loop-arg
invariant-loop-arg l = record {
  named : map (λ i. slice_get l.needs.keys i) l.numbers.items ≡ map (λ a. Some (need_of a)) (take l.arg-index l.initial.args);
  grown : IsGrown l.initial.needs.keys l.needs.keys;
  no_more : (j : ℕ) → length l.initial.needs.keys ≤ j → j < length l.needs.keys → has j l.numbers.items ≡ true;
}
