use Rattle.class_shape.specs.Meaning.{row_shape}
use Rattle.class_shape.proofs.Loops.{EachSoFar}
use Rattle.class_shape.proofs.resolved_lists.row_shapes.Given as goal

abbrev pub invariant-loop-i : goal.invariant-loop-i
invariant-loop-i l = EachSoFar (row_shape l.pool.entries) l.i l.shapes l.rows
