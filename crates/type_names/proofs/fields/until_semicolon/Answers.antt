use Rattle.std.proofs.Common.{arith}
use Rattle.std.proofs.lemmas.Str.Pattern.{split_parts}
use Rattle.type_names.proofs.TextLaws.{until_is}
use Rattle.type_names.proofs.fields.until_semicolon.Goals as goal

pub returns : goal.returns
returns c = until_is c.args.text.now _ (split_parts 59 c.args.text.now _ c.split_once.ensures.cases (omega arith))
