use Rattle.class_shape.proofs.Loops.{JoinedSoFar}
use Rattle.code_walk.specs.CodeReading.{method_ranges}
use Rattle.code_walk.proofs.code_attribute.joined_ranges.Given as goal

abbrev pub invariant-loop-i : goal.invariant-loop-i
invariant-loop-i l = JoinedSoFar (λ v. method_ranges l.pool.entries v.items) l.i l.all.items l.methods
