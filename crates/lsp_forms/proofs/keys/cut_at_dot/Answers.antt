use Rattle.std.proofs.Common.{arith}
use Rattle.std.proofs.lemmas.Str.Pattern.{split_parts}
use Rattle.lsp_forms.proofs.Cuts.{cut_is}
use Rattle.lsp_forms.proofs.keys.cut_at_dot.Goals as goal

pub returns : goal.returns
returns c = cut_is 46 c.args.text.now _ (split_parts 46 c.args.text.now _ c.split_once.ensures.cases (omega arith))
