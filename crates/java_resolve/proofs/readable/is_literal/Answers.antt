use Rattle.std.proofs.Common.{refl}
use Rattle.std.specs.Str.{chars}
use Rattle.java_shapes.specs.Words.{literals}
use Rattle.java_resolve.proofs.WordTests.{table_test}
use Rattle.java_resolve.proofs.readable.is_literal.Goals as goal

pub returns : goal.returns
returns c = table_test literals c.args.text.now (chars c.args.text.now) c.has.result refl c.utf8.text refl c.has.ensures
