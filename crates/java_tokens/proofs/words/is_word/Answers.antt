use Rattle.std.specs.Str.{chars}
use Rattle.java_tokens.proofs.WordLaws.{word_parts, no_word}
use Rattle.java_tokens.proofs.words.is_word.Goals as goal

pub returns-then-begins_word : goal.returns-then-begins_word
returns-then-begins_word c = record { value = word_parts (chars c.args.text.now) c.begins_word.result c.are_word_parts.result c.if-begins_word.true c.begins_word.ensures c.are_word_parts.ensures }

pub returns-else-begins_word : goal.returns-else-begins_word
returns-else-begins_word c = record { value = no_word (chars c.args.text.now) c.begins_word.result c.if-begins_word.false c.begins_word.ensures }
