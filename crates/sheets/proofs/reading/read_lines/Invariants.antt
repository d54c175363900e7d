use Rattle.std.proofs.Common.{◌≡◌, ◌+◌, [], map}
use Rattle.sheets.specs.Words.{texts}
use Rattle.sheets.specs.SheetLines.{line_of}
use Rattle.sheets.specs.Sheets.{first_fault}
use Rattle.sheets.specs.Standing.{Stands}
use Rattle.sheets.proofs.Bodies.{before, from}
use Rattle.sheets.proofs.reading.read_lines.Given as goal

abbrev pub invariant-loop-number : goal.invariant-loop-number
invariant-loop-number l = record {
  stands : Stands l.sheet (before l.version (texts l.body) l.number);
  fault : first_fault 2 [] (map (line_of l.version) (texts l.body)) ≡ first_fault (l.number + 2) (before l.version (texts l.body) l.number) (from l.version (texts l.body) l.number);
}
