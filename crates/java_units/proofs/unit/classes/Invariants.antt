use Rattle.java_units.specs.Signs.{seen}
use Rattle.java_units.proofs.Bodies.{Goes, tops}
use Rattle.java_units.proofs.unit.classes.Given as goal

abbrev pub invariant-loop : goal.invariant-loop
invariant-loop l = Goes l.count (seen l.lexemes) l.classes (tops l.frames.items)
