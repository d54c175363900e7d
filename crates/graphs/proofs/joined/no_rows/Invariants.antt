use Rattle.graphs.proofs.Turning.{AreEmptyRows}
use Rattle.graphs.proofs.joined.no_rows.Given as goal

abbrev pub invariant-loop : goal.invariant-loop
invariant-loop l = AreEmptyRows l.rows.items l.counter
