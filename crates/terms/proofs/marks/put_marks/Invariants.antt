use Rattle.std.proofs.Common.{◌≡◌, ◌⊎◌, ℕ, true, get_or, take}
use Rattle.terms.specs.Table.{has}
use Rattle.terms.proofs.marks.put_marks.Given as goal

abbrev pub invariant-loop-upper : goal.invariant-loop-upper
invariant-loop-upper l = (x : ℕ) → (get_or l.marks.items x 0 ≡ get_or l.fn.marks.items x 0) ⊎ ((has x (take l.upper-index l.row) ≡ true) × (get_or l.marks.items x 0 ≡ l.mark))
