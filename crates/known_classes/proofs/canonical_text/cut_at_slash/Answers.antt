use Rattle.std.proofs.Common.{arith}
use Rattle.std.proofs.lemmas.Str.Pattern.{split_parts}
use Rattle.known_classes.proofs.Dots.{cut_dots}
use Rattle.known_classes.proofs.canonical_text.cut_at_slash.Goals as goal

pub returns : goal.returns
returns c = cut_dots c.args.text.now _ c.utf8.text (split_parts 47 c.args.text.now _ c.split_once.ensures.cases (omega arith))
