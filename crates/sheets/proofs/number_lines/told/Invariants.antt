use Rattle.std.proofs.Common.{◌≡◌, drop}
use Rattle.sheets.specs.Sheets.{told_number}
use Rattle.sheets.proofs.number_lines.told.Given as goal

abbrev pub invariant-loop-line : goal.invariant-loop-line
invariant-loop-line l = told_number l.word l.lines ≡ told_number l.word (drop l.line-index l.lines)
