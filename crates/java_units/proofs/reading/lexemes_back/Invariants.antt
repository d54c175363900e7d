use Rattle.java_units.proofs.BlockLaws.{Backs}
use Rattle.java_units.proofs.reading.lexemes_back.Given as goal

abbrev pub invariant-loop-number : goal.invariant-loop-number
invariant-loop-number l = Backs l.text l.tokens l.number l.back.items l.closers.items

abbrev pub decreases-loop-number : goal.decreases-loop-number
decreases-loop-number l = l.number
