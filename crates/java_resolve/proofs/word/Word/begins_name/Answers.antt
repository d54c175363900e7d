use Rattle.std.proofs.Common.{refl, ◌∷◌, codes}
use Rattle.java_shapes.specs.Words.{literals}
use Rattle.java_resolve.proofs.WordTests.{table_test, begins_yes, begins_no}
use Rattle.java_resolve.proofs.word.Word.begins_name.Goals as goal

pub returns-then-is_identifier : goal.returns-then-is_identifier
returns-then-is_identifier c = begins_yes c.args.self.now c.is_identifier.result c.if-is_identifier.true c.is_identifier.ensures

pub returns-else-is_identifier : goal.returns-else-is_identifier
returns-else-is_identifier c = begins_no c.args.self.now c.is_identifier.result c.has.result c.if-is_identifier.false c.is_identifier.ensures (table_test (codes "this" ∷ literals) c.as_str.result.now c.args.self.now c.has.result refl c.as_str.utf8 c.as_str.ensures c.has.ensures)
