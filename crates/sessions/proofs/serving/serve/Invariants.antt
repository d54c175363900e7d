use Rattle.std.proofs.Common.{◌≤◌}
use Rattle.sessions.specs.Serving.{IsReading}
use Rattle.sessions.proofs.serving.serve.Given as goal

abbrev pub invariant-loop : goal.invariant-loop
invariant-loop g l =
    let left = g.S.Source.left in
    let read_faults = g.S.Source.faults in
    let written = g.K.Sink.written in
    let write_faults = g.K.Sink.faults in
    let state = g.W.World.state in
    record {
      reading : IsReading l.fn.session l.session (left l.fn.source) (left l.source) (written l.fn.sink) (written l.sink) l.frames (state l.fn.world) (state l.world);
      read_later : read_faults l.fn.source ≤ read_faults l.source;
      write_later : write_faults l.fn.sink ≤ write_faults l.sink;
    }
