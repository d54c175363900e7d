use Rattle.std.proofs.Common.{◌≡◌, ◌≤◌, drop}
use Rattle.checker.specs.Frames.{read_rows}
use Rattle.checker.specs.OpenParts.{frames_of}
use Rattle.checker.proofs.reading.read_rows.Given as goal

abbrev pub invariant-loop-row : goal.invariant-loop-row
invariant-loop-row l = record {
  low : l.sum ≤ l.env.limit;
  same : read_rows l.env 0 (frames_of l.initial.parts.items) l.rows ≡ read_rows l.env l.sum (frames_of l.parts.items) (drop l.row-index l.rows);
}
