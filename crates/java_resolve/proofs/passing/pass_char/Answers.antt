use Rattle.std.proofs.Common.{rules, ◌≡◌, ◌∙◌, ◌+◌, sym, refl}
use Rattle.std.specs.Char.{len_utf8}
use Rattle.java_resolve.proofs.Pieces.{char_goes_on, char_ends, char_unknown}
use Rattle.java_resolve.proofs.passing.pass_char.Goals as goal

pub returns-then-is_word_part-clause-known : goal.returns-then-is_word_part-clause-known
returns-then-is_word_part-clause-known c = λ d bound k. char_goes_on d bound c.args.name c.push.new.self c.args.c c.args.at.now c.args.at.now (sym c.is_word_part.ensures ∙ c.if-is_word_part.true) c.in_ok-push.ensures.added refl

pub returns-then-not-is_known-clause-unknown : goal.returns-then-not-is_known-clause-unknown
returns-then-not-is_known-clause-unknown c = λ d bound k. char_unknown d bound c.args.name c.args.c c.args.at.now c.pass_word.new.at c.in_ok-is_known.is_known (sym c.is_word_part.ensures ∙ c.if-is_word_part.false) c.if-not-is_known.true (c.in_ok-is_known.ensures d bound k)

pub returns-clause-known : goal.returns-clause-known
returns-clause-known c = λ d bound k.
    let far : c.advance.new.at ≡ c.pass_word.new.at + len_utf8 c.args.c = search rules in
    char_ends d bound c.args.name c.new.result c.args.c c.args.at.now c.pass_word.new.at c.advance.new.at c.in_ok-is_known.is_known (sym c.is_word_part.ensures ∙ c.if-is_word_part.false) c.new.ensures c.if-not-is_known.false (c.in_ok-is_known.ensures d bound k) far
