use Rattle.std.proofs.Common.{◌-◌, length}
use Rattle.java_units.specs.Signs.{seen}
use Rattle.java_units.proofs.Walks.{Spans}
use Rattle.java_bodies.specs.Variables.{alternative_len}
use Rattle.java_bodies.proofs.headers.alternatives_len.Given as goal

abbrev pub invariant-loop-n : goal.invariant-loop-n
invariant-loop-n l = Spans alternative_len (seen l.lexemes) l.n

abbrev pub decreases-loop-n : goal.decreases-loop-n
decreases-loop-n l = length (seen l.lexemes) - l.n
