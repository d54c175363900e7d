use Rattle.std.proofs.Common.{◌≡◌, drop}
use Rattle.terms.specs.Table.{gap_from}
use Rattle.terms.proofs.above.gap_from.Given as goal

abbrev pub invariant-loop-middle : goal.invariant-loop-middle
invariant-loop-middle l = gap_from l.rows l.lower l.row ≡ gap_from l.rows l.lower (drop l.middle-index l.row)
