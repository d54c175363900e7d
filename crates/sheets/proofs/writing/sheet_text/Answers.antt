use Rattle.std.proofs.Common.{◌∙◌, ap}
use Rattle.sheets.specs.Writing.{sheet_text}
use Rattle.sheets.proofs.Pieces.{again-for}
use Rattle.sheets.proofs.writing.sheet_text.Goals as goal

pub returns-clause-again : goal.returns-clause-again
returns-clause-again c =
    again-for c.args.env.now c.parts-2.result.now c.as_str.result.now (c.as_str.ensures ∙ c.in_ok-text.ensures ∙ ap sheet_text c.parts.ensures.value) c.parts-2.ensures.value c.says_again.ensures
