use Rattle.std.proofs.Common.{◌≤◌, ◌-◌, length, vec_len}
use Rattle.std.specs.Io.KnownBytes.{Consumes}
use Rattle.outside.proofs.reading.read_through.Given as goal

abbrev pub invariant-loop-bytes : goal.invariant-loop-bytes
invariant-loop-bytes g l =
    let left = g.S.Source.left in
    let faults = g.S.Source.faults in
    record {
      prefix : Consumes (left l.fn.source) (left l.source) l.bytes.items;
      bound : length l.bytes.items ≤ l.limit;
      later : faults l.fn.source ≤ faults l.source;
    }

abbrev pub decreases-loop-bytes : goal.decreases-loop-bytes
decreases-loop-bytes g l = l.limit - vec_len l.bytes
