use Rattle.class_shape.proofs.Loops.{JoinedSoFar}
use Rattle.code_walk.specs.CodeReading.{attribute_ranges}
use Rattle.code_walk.proofs.code_attribute.method_ranges.Given as goal

abbrev pub invariant-loop-i : goal.invariant-loop-i
invariant-loop-i l = JoinedSoFar (attribute_ranges l.pool.entries) l.i l.all.items l.attributes
