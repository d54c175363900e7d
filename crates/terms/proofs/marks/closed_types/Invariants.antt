use Rattle.terms.specs.Closed.{AreRight}
use Rattle.terms.proofs.marks.closed_types.Given as goal

abbrev pub invariant-loop-lower : goal.invariant-loop-lower
invariant-loop-lower l = AreRight l.rows l.marks
