use Rattle.std.proofs.Common.{refl, sym, ◌∙◌}
use Rattle.java_resolve.proofs.WordTests.{first_alone, first_quote, first_zero, first_quotes, first_later}
use Rattle.java_resolve.proofs.word.Word.begins_first_with.Goals as goal

pub returns-then-is_empty : goal.returns-then-is_empty
returns-then-is_empty c = first_alone c.args.self.now c.args.c c.begins_name.result (sym c.is_empty.ensures ∙ c.if-is_empty.true) c.begins_name.ensures

pub returns-then-is : goal.returns-then-is
returns-then-is c = first_quote c.args.self.now c.args.c _ (sym c.is.ensures ∙ c.if-is.true) refl

pub returns-then-is-2 : goal.returns-then-is-2
returns-then-is-2 c = first_zero c.args.self.now c.args.c (sym c.is-2.ensures ∙ c.if-is-2.true)

pub returns-then-is-3 : goal.returns-then-is-3
returns-then-is-3 c = first_quotes c.args.self.now c.args.c (sym c.is-3.ensures ∙ c.if-is-3.true)

pub returns : goal.returns
returns c = first_later c.args.self.now c.args.c c.is_word_part.result (sym c.is_empty.ensures ∙ c.if-is_empty.false) c.requires (sym c.is.ensures ∙ c.if-is.false) (sym c.is-2.ensures ∙ c.if-is-2.false) (sym c.is-3.ensures ∙ c.if-is-3.false) c.is_word_part.ensures
