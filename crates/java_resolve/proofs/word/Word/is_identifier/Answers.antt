use Rattle.java_resolve.proofs.WordTests.{identifier_test}
use Rattle.java_resolve.proofs.word.Word.is_identifier.Goals as goal

pub returns : goal.returns
returns c = identifier_test c.as_str.result.now c.args.self.now c.is_identifier.result c.as_str.utf8 c.as_str.ensures c.is_identifier.ensures.value
