use Rattle.java_units.specs.Signs.{seen}
use Rattle.java_bodies.proofs.Loops.{IsPlain}
use Rattle.java_bodies.proofs.statements.own_start.Given as goal

abbrev pub invariant-loop-left : goal.invariant-loop-left
invariant-loop-left l = IsPlain (seen l.lexemes) l.left

abbrev pub decreases-loop-left : goal.decreases-loop-left
decreases-loop-left l = l.left
