use Rattle.std.proofs.Common.{arith}
use Rattle.std.proofs.lemmas.Str.Pattern.{strip_prefix_char}
use Rattle.type_names.proofs.TextLaws.{past_is}
use Rattle.type_names.proofs.methods.opened.Goals as goal

pub returns : goal.returns
returns c = past_is 40 c.args.text.now _ (strip_prefix_char 40 c.args.text.now _ c.strip_prefix.ensures.cases (omega arith))
