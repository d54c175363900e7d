use Rattle.std.proofs.Common.{◌≡◌, ◌≤◌, List, Some, length}
use Rattle.outside.specs.declared.shelf.HeldFile.{HeldFile}
use Rattle.counting.proofs.Texts.{IsCounted}
use Rattle.counting.proofs.files.count_lines.Given as goal

abbrev pub invariant-loop-path : goal.invariant-loop-path
invariant-loop-path g l = record {
  counted : l.line ≡ length l.yielded;
  unchanged : g.H.Shelf.holds l.shelf ≡ g.H.Shelf.holds l.fn.shelf;
  later : g.H.Shelf.faults l.fn.shelf ≤ g.H.Shelf.faults l.shelf;
  rest : (files : List HeldFile) → g.H.Shelf.holds l.fn.shelf ≡ Some files → IsCounted files l.text l.line l.fn.tally.counts l.tally.counts;
}
