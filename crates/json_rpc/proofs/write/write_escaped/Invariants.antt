use Rattle.std.proofs.Common.{◌≤◌}
use Rattle.json_rpc.specs.Replies.{HasRun}
use Rattle.json_rpc.proofs.write.write_escaped.Given as goal

abbrev pub invariant-loop-i : goal.invariant-loop-i
invariant-loop-i g l = record {
  run : HasRun (g.K.Sink.written l.fn.sink) (g.K.Sink.written l.sink) l.bytes l.done l.i;
  later : g.K.Sink.faults l.fn.sink ≤ g.K.Sink.faults l.sink;
}
