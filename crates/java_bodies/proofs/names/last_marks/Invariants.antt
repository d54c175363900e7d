use Rattle.std.specs.BTreeSet.{contains_text}
use Rattle.java_bodies.proofs.LastOnes.{IsMet}
use Rattle.java_bodies.proofs.names.last_marks.Given as goal

abbrev pub invariant-loop-left : goal.invariant-loop-left
invariant-loop-left l = IsMet l.variables l.marks.items (contains_text l.met) l.left

abbrev pub decreases-loop-left : goal.decreases-loop-left
decreases-loop-left l = l.left
