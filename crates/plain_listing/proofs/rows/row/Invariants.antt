use Rattle.plain_listing.specs.Tables.{IsRow}
use Rattle.plain_listing.proofs.rows.row.Given as goal

abbrev pub invariant-loop-n : goal.invariant-loop-n
invariant-loop-n l = IsRow l.env l.depth l.contexts l.rows l.all l.n
