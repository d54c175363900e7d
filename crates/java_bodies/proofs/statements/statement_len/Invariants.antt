use Rattle.std.proofs.Common.{◌≡◌, ◌+◌, drop}
use Rattle.java_units.specs.Signs.{seen}
use Rattle.java_bodies.specs.Statements.{statement_len}
use Rattle.java_bodies.proofs.statements.statement_len.Given as goal

abbrev pub invariant-loop-i : goal.invariant-loop-i
invariant-loop-i l = statement_len (seen l.lexemes) ≡ l.i + statement_len (drop l.i (seen l.lexemes))
