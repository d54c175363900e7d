use Rattle.std.proofs.Common.{◌≤◌, take}
use Rattle.std.specs.List.{flat_map}
use Rattle.std.specs.Io.KnownBytes.{Appends}
use Rattle.json_rpc.specs.Replies.{piece_text}
use Rattle.json_rpc.proofs.write.write_pieces.Given as goal

abbrev pub invariant-loop-piece : goal.invariant-loop-piece
invariant-loop-piece g l = record {
  wrote : Appends (g.K.Sink.written l.fn.sink) (g.K.Sink.written l.sink) (flat_map piece_text (take l.piece-index l.pieces));
  later : g.K.Sink.faults l.fn.sink ≤ g.K.Sink.faults l.sink;
}
