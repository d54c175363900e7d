use Rattle.std.proofs.Common.{◌-◌, length}
use Rattle.java_units.specs.Signs.{seen}
use Rattle.java_units.specs.Forms.{next_len}
use Rattle.java_units.proofs.Walks.{Spans}
use Rattle.java_units.proofs.entries.nexts_len.Given as goal

abbrev pub invariant-loop-entry : goal.invariant-loop-entry
invariant-loop-entry l = Spans (next_len l.entry) (seen l.lexemes) l.n

abbrev pub decreases-loop-entry : goal.decreases-loop-entry
decreases-loop-entry l = length (seen l.lexemes) - l.n
