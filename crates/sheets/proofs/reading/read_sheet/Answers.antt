use Rattle.std.specs.Str.Lines.{lines}
use Rattle.sheets.specs.Sheets.{body_of}
use Rattle.sheets.proofs.Bodies.{has-lengths, refused-first, sheet-result, valid-result, writable-result}
use Rattle.sheets.proofs.reading.read_sheet.Goals as goal

pub checked-requires : goal.checked-requires
checked-requires c = has-lengths c.in-Ok.read.sheet (body_of (lines c.args.bytes.now)) c.in-Ok.ensures.0 c.in-Ok.ensures.3

pub returns-in-Ok-clause-sheet : goal.returns-in-Ok-clause-sheet
returns-in-Ok-clause-sheet c = sheet-result c.in-Ok.read.sheet c.args.bytes.now c.in-Ok.read.after c.checked.result c.in-Ok.ensures.0 c.in-Ok.ensures.1 c.in-Ok.ensures.2 c.checked.ensures

pub returns-in-Ok-clause-valid : goal.returns-in-Ok-clause-valid
returns-in-Ok-clause-valid c = valid-result c.in-Ok.read.sheet c.in-Ok.read.after c.checked.result c.checked.ensures

pub returns-in-Ok-clause-writable : goal.returns-in-Ok-clause-writable
returns-in-Ok-clause-writable c = writable-result c.in-Ok.read.sheet c.args.bytes.now c.in-Ok.read.after c.checked.result c.in-Ok.ensures.0 c.in-Ok.ensures.1 c.in-Ok.ensures.2 c.checked.ensures

pub returns-in-Err-clause-sheet : goal.returns-in-Err-clause-sheet
returns-in-Err-clause-sheet c = refused-first c.args.bytes.now c.in-Err.fault c.in-Err.ensures
