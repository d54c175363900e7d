use Rattle.std.proofs.Common.{List, ℕ, subst}
use Rattle.sheets.specs.Sheets.{IsSheet}
use Rattle.sheet_runs.proofs.Endings.{is-read}
use Rattle.sheet_runs.proofs.reading.read_env.Goals as goal

pub returns-in-Ok-read_sheet-clause-sheet : goal.returns-in-Ok-read_sheet-clause-sheet
returns-in-Ok-read_sheet-clause-sheet g c =
    let P : List ℕ → Type 0 = λ b. IsSheet b c.in-Ok-read_sheet.env in
    let sheet = subst P c.as_slice.ensures.value c.in-Ok-read_sheet.ensures.sheet in
    is-read _ _ c.in-Ok.bytes.items c.in-Ok-read_sheet.env c.in-Ok.ensures.bytes c.in-Ok.ensures.end sheet
