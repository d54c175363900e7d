use Rattle.std.proofs.Common.{◌∙◌, ap}
use Rattle.java_shapes.specs.Reader.{is_empty}
use Rattle.java_resolve.proofs.WordTests.{empty_chars}
use Rattle.java_resolve.proofs.word.Word.is_empty.Goals as goal

pub returns : goal.returns
returns c = empty_chars c.as_str.result.now c.is_empty.result c.as_str.utf8 c.is_empty.ensures ∙ ap is_empty c.as_str.ensures
