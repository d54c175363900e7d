use Rattle.std.proofs.Common.{◌≡◌, None}
use Rattle.terms.specs.Faults.{first_below}
use Rattle.terms.specs.Table.{gap_from, row_at}
use Rattle.terms.proofs.above.first_gap.Given as goal

abbrev pub invariant-loop-lower : goal.invariant-loop-lower
invariant-loop-lower l = first_below (λ a. gap_from l.rows a (row_at l.rows a)) l.lower ≡ None
