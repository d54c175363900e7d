use Rattle.std.proofs.Common.{◌≡◌, ◌++◌, length}
use Rattle.java_units.specs.Signs.{seen, seens}
use Rattle.java_units.specs.Forms.{starts}
use Rattle.java_units.specs.Pieces.{run_len}
use Rattle.java_units.proofs.starts.starts.Given as goal

abbrev pub invariant-loop-rest : goal.invariant-loop-rest
invariant-loop-rest l = starts (run_len l.run) 0 (seen l.lexemes) ≡ seens l.all.items ++ starts (run_len l.run) 0 (seen l.rest)

abbrev pub decreases-loop-rest : goal.decreases-loop-rest
decreases-loop-rest l = length (seen l.rest)
