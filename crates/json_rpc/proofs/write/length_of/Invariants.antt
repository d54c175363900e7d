use Rattle.std.proofs.Common.{◌≡◌, ◌≤◌, ◌*◌, ◌^◌, take, length}
use Rattle.std.specs.List.{flat_map}
use Rattle.json_rpc.specs.Replies.{piece_text}
use Rattle.json_rpc.proofs.write.length_of.Given as goal

abbrev pub invariant-loop-piece : goal.invariant-loop-piece
invariant-loop-piece l = record {
  length : l.length ≡ length (flat_map piece_text (take l.piece-index l.pieces));
  bound : l.length ≤ 2 ^ 100 * l.piece-index;
}
