use Rattle.class_shape.specs.Meaning.{index_name}
use Rattle.class_shape.proofs.Loops.{EachSoFar}
use Rattle.class_shape.proofs.resolved_lists.class_names.Given as goal

abbrev pub invariant-loop-i : goal.invariant-loop-i
invariant-loop-i l = EachSoFar (index_name l.pool.entries) l.i l.names l.indices
