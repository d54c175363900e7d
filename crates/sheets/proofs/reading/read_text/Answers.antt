use Rattle.std.proofs.Common.{rules, ◌≡◌}
use Rattle.std.specs.Str.Lines.{lines}
use Rattle.sheets.specs.Words.{texts}
use Rattle.sheets.proofs.Texts.{rest-short}
use Rattle.sheets.proofs.reading.read_text.Goals as goal

pub read_body-requires : goal.read_body-requires
read_body-requires c =
    let all : texts c.as_slice-2.result.now ≡ lines c.args.text.now = search rules in
    rest-short c.tail.result.now c.as_slice-2.result.now c.args.text.now c.tail.ensures all c.requires
