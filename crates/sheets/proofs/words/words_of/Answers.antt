use Rattle.std.proofs.Common.{◌∙◌, ◌++◌, ℕ, ap, lit<, Ok}
use Rattle.std.proofs.lemmas.Iterator.Adapters.{fact_from_extend}
use Rattle.std.proofs.lemmas.Iterator.Consumers.{YieldsList-at}
use Rattle.std.proofs.lemmas.Iterator.Splits.{YieldsList-from_str_split}
use Rattle.sheets.specs.Words.{texts}
use Rattle.sheets.proofs.words.words_of.Goals as goal

pub returns : goal.returns
returns c =
    let road = YieldsList-from_str_split 32 c.args.line.now (lit< tt) c.split.ensures.text c.split.ensures.has_more c.split.ensures.pattern in
    fact_from_extend {E = ℕ} (λ x. x.now) (Ok c.in_ok-extend.field-0) c.in_ok-extend.ensures.ran (λ it is. YieldsList-at is road) (λ xs e h. ap texts (h.0 ∙ ap (λ t. t ++ xs) c.in_ok-words.ensures.items) ∙ e)
