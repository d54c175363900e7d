use Rattle.std.proofs.Common.{◌∙◌, sym}
use Rattle.java_resolve.proofs.WordTests.{goes_first, goes_later}
use Rattle.java_resolve.proofs.word.Word.goes_on.Goals as goal

pub returns-then-is_empty : goal.returns-then-is_empty
returns-then-is_empty c = goes_first c.args.self.now c.args.c c.is_word_start.result (sym c.is_empty.ensures ∙ c.if-is_empty.true) c.is_word_start.ensures

pub returns-else-is_empty : goal.returns-else-is_empty
returns-else-is_empty c = goes_later c.args.self.now c.args.c c.is_word_part.result (sym c.is_empty.ensures ∙ c.if-is_empty.false) c.requires c.is_word_part.ensures
