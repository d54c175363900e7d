use Rattle.java_units.specs.Signs.{seen}
use Rattle.java_bodies.proofs.Walks.{IsMarked}
use Rattle.java_bodies.proofs.kept.kept_marks.Given as goal

abbrev pub invariant-loop-left : goal.invariant-loop-left
invariant-loop-left l = IsMarked l.brackets (seen l.lexemes) l.marks.items l.left l.closed

abbrev pub decreases-loop-left : goal.decreases-loop-left
decreases-loop-left l = l.left
