use Rattle.std.proofs.Common.{◌≡◌, ℕ, false, length, get_or}
use Rattle.patterns.proofs.met_kinds.no_marks.Given as goal

abbrev pub invariant-loop : goal.invariant-loop
invariant-loop l = record {
  as_many : length l.marks.items ≡ l.counter;
  unmarked : (i : ℕ) → get_or l.marks.items i false ≡ false;
}
