use Rattle.std.proofs.Common.{◌≡◌, drop}
use Rattle.java_resolve.specs.Lambdas.{are_variables}
use Rattle.java_resolve.proofs.lambdas.are_variables.Given as goal

abbrev pub invariant-loop-word : goal.invariant-loop-word
invariant-loop-word l = are_variables l.parts l.number (drop l.word-index l.words) ≡ are_variables l.parts l.from l.words
