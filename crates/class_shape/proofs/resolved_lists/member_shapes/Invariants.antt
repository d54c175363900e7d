use Rattle.class_shape.specs.Meaning.{member_shape}
use Rattle.class_shape.proofs.Loops.{EachSoFar}
use Rattle.class_shape.proofs.resolved_lists.member_shapes.Given as goal

abbrev pub invariant-loop-i : goal.invariant-loop-i
invariant-loop-i l = EachSoFar (member_shape l.pool.entries l.kind) l.i l.shapes l.members
