use Rattle.std.proofs.Common.{◌≡◌, ◌++◌, vec_len}
use Rattle.java_units.specs.Signs.{seen, signs_of}
use Rattle.java_units.specs.Blocks.{seen_back}
use Rattle.java_units.proofs.reading.lexemes.Given as goal

abbrev pub invariant-loop-lexeme : goal.invariant-loop-lexeme
invariant-loop-lexeme l = signs_of l.text l.tokens ≡ seen l.all.items ++ seen_back l.back.items

abbrev pub decreases-loop-lexeme : goal.decreases-loop-lexeme
decreases-loop-lexeme l = vec_len l.back
