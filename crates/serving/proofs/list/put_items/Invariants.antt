use Rattle.std.proofs.Common.{◌≤◌, ◌++◌, ℕ, List, Option, take}
use Rattle.outside.specs.Gathered.{Gathered}
use Rattle.serving.specs.Runs.{items_text}
use Rattle.serving.proofs.list.put_items.Given as goal

abbrev pub invariant-loop-item : goal.invariant-loop-item
invariant-loop-item g l =
    let written = g.K.Sink.written in
    let faults = g.K.Sink.faults in
    record {
      gathered : (start : Option (List ℕ)) → (all : List ℕ) → Gathered start (written l.fn.sink) l.fn.gathering all → Gathered start (written l.sink) l.gathering (all ++ items_text (take l.item-index l.items));
      later : faults l.fn.sink ≤ faults l.sink;
    }
