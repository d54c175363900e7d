use Rattle.std.proofs.Common.{arith}
use Rattle.std.proofs.lemmas.Str.Pattern.{split_parts}
use Rattle.lsp_forms.proofs.Cuts.{cut_is}
use Rattle.lsp_forms.proofs.keys.cut_at_colon.Goals as goal

pub returns : goal.returns
returns c = cut_is 58 c.args.text.now _ (split_parts 58 c.args.text.now _ c.split_once.ensures.cases (omega arith))
