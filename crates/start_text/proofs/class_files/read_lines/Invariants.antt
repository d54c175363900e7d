use Rattle.std.proofs.Common.{◌≡◌, ◌≤◌, List, [], Some, length}
use Rattle.outside.specs.declared.shelf.HeldFile.{HeldFile}
use Rattle.start_text.proofs.Batching.{AreRead}
use Rattle.start_text.proofs.class_files.read_lines.Given as goal

abbrev pub invariant-loop-path : goal.invariant-loop-path
invariant-loop-path g l = record {
  counted : l.line ≡ length l.yielded;
  unchanged : g.H.Shelf.holds l.shelf ≡ g.H.Shelf.holds l.fn.shelf;
  later : g.H.Shelf.faults l.fn.shelf ≤ g.H.Shelf.faults l.shelf;
  read : (files : List HeldFile) → g.H.Shelf.holds l.fn.shelf ≡ Some files → l.fn.reading ≡ ([], []) → AreRead files l.text l.line l.reading;
}
