use Rattle.std.proofs.Common.{◌∙◌, ◌∷◌, []}
use Rattle.std.specs.List.{list_all}
use Rattle.std.specs.Char.{is_ascii}
use Rattle.java_resolve.proofs.WordTests.{one_and, table_test}
use Rattle.java_resolve.proofs.word.Word.is.Goals as goal

pub returns : goal.returns
returns c = table_test (c.args.text.now ∷ []) c.as_str.result.now c.args.self.now c.has.result (one_and (list_all is_ascii c.args.text.now) ∙ c.requires) c.as_str.utf8 c.as_str.ensures c.has.ensures
