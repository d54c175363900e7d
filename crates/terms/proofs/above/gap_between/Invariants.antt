use Rattle.std.proofs.Common.{◌≡◌, drop}
use Rattle.terms.specs.Table.{gap_between}
use Rattle.terms.proofs.above.gap_between.Given as goal

abbrev pub invariant-loop-upper : goal.invariant-loop-upper
invariant-loop-upper l = gap_between l.rows l.lower l.middle l.row ≡ gap_between l.rows l.lower l.middle (drop l.upper-index l.row)
