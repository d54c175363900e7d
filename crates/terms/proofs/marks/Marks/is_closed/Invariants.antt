use Rattle.std.proofs.Common.{◌≡◌, ℕ, true, take}
use Rattle.terms.specs.Table.{has, row_at}
use Rattle.terms.specs.Closed.{AreRight, IsWithin}
use Rattle.terms.proofs.marks.Marks.is_closed.Given as goal

abbrev pub invariant-loop-upper : goal.invariant-loop-upper
invariant-loop-upper l = record {
  right : AreRight l.rows l.self;
  within : (b : ℕ) → has b (take l.upper-index (row_at l.rows l.lower)) ≡ true → IsWithin l.rows b l.lower;
}
