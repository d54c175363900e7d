use Rattle.std.proofs.Common.{refl}
use Rattle.java_units.specs.Forms.{primitives}
use Rattle.java_resolve.proofs.WordTests.{table_test}
use Rattle.java_resolve.proofs.word.Word.is_primitive.Goals as goal

pub returns : goal.returns
returns c = table_test primitives c.as_str.result.now c.args.self.now c.has.result refl c.as_str.utf8 c.as_str.ensures c.has.ensures
