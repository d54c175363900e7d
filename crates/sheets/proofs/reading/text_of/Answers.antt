use Rattle.std.proofs.Common.{rules, tests, ◌∙◌, ◌≤◌, length, subst, sym}
use Rattle.sheets.specs.Sheets.{text_fault}
use Rattle.sheets.specs.Standing.{Refuses}
use Rattle.sheets.specs.declared.reading.SheetFault.{SheetFault}
use Rattle.sheets.proofs.Texts.{text-good, text-bad}
use Rattle.sheets.proofs.reading.text_of.Goals as goal

pub returns-in-Ok : goal.returns-in-Ok
returns-in-Ok c =
    let within : length c.args.bytes.now ≤ 16777216 = search (rules, tests) in
    (c.in-Ok.ensures.cases.0, within, text-good c.args.bytes.now within c.in-Ok.ensures.cases.1)

pub returns-in-Err : goal.returns-in-Err
returns-in-Err c =
    let within : length c.args.bytes.now ≤ 16777216 = search (rules, tests) in
    let P : SheetFault → Type 0 = λ fault. Refuses (text_fault c.args.bytes.now) fault in
    subst P (sym c.at-in-Err.ensures) (text-bad c.args.bytes.now c.valid_up_to.result c.line_feeds.result within c.in-Err.ensures.cases.0 (c.valid_up_to.ensures ∙ c.in-Err.ensures.valid_len) c.line_feeds.ensures.counted)
