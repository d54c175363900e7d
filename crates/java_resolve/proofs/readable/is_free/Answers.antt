use Rattle.std.proofs.Common.{refl}
use Rattle.std.specs.Str.{chars}
use Rattle.java_resolve.proofs.WordTests.{identifier_test}
use Rattle.java_resolve.proofs.TextFacts.{not_free, free_by}
use Rattle.java_resolve.proofs.readable.is_free.Goals as goal

pub returns-then-not-is_identifier : goal.returns-then-not-is_identifier
returns-then-not-is_identifier c = not_free (chars c.args.binder.now) (chars c.args.word.now) c.is_identifier.result c.if-not-is_identifier.true (identifier_test c.args.word.now (chars c.args.word.now) c.is_identifier.result c.utf8.word refl c.is_identifier.ensures.value)

pub returns : goal.returns
returns c = free_by (chars c.args.binder.now) (chars c.args.word.now) c.is_identifier.result c.is_binder.result c.if-not-is_identifier.false (identifier_test c.args.word.now (chars c.args.word.now) c.is_identifier.result c.utf8.word refl c.is_identifier.ensures.value) c.is_binder.ensures
