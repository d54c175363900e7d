use Rattle.std.proofs.Common.{◌≤◌, ◌++◌, ℕ, List, Option, take, length}
use Rattle.outside.specs.Gathered.{Gathered}
use Rattle.counting.specs.Lines.{lines_text}
use Rattle.counting.proofs.lines.put_lines.Given as goal

abbrev pub invariant-loop-key : goal.invariant-loop-key
invariant-loop-key g l =
    let written = g.K.Sink.written in
    let faults = g.K.Sink.faults in
    record {
      gathered : (start : Option (List ℕ)) → (all : List ℕ) → Gathered start (written l.fn.sink) l.fn.gathering all → Gathered start (written l.sink) l.gathering (all ++ lines_text (take (length l.yielded) l.counts));
      later : faults l.fn.sink ≤ faults l.sink;
    }
