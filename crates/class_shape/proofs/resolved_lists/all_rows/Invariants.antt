use Rattle.class_shape.specs.Meaning.{attribute_rows}
use Rattle.class_shape.proofs.Loops.{JoinedSoFar}
use Rattle.class_shape.proofs.resolved_lists.all_rows.Given as goal

abbrev pub invariant-loop-i : goal.invariant-loop-i
invariant-loop-i l = JoinedSoFar (attribute_rows l.pool.entries) l.i l.all l.attributes
