use Rattle.std.proofs.Common.{◌∙◌, sym}
use Rattle.java_resolve.proofs.Adding.{goes_on, ends}
use Rattle.java_resolve.proofs.declared.next_word.Goals as goal

pub returns-then-is_word_part : goal.returns-then-is_word_part
returns-then-is_word_part c = goes_on c.args.set.now c.args.word c.push.new.self c.args.c (sym c.is_word_part.ensures ∙ c.if-is_word_part.true) c.in_ok-push.ensures.added

pub returns : goal.returns
returns c = ends c.args.set.now c.add_word.new.set c.args.word c.new.result c.args.c (sym c.is_word_part.ensures ∙ c.if-is_word_part.false) c.new.ensures c.in_ok-add_word.ensures.added
