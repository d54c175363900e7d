use Rattle.std.proofs.Common.{◌≡◌, ◌+◌, ◌++◌, take}
use Rattle.std.specs.Vec.{vec_len, vec_capacity}
use Rattle.sessions.proofs.publications.append.Given as goal

abbrev pub invariant-loop-byte : goal.invariant-loop-byte
invariant-loop-byte l = record {
  items : l.reply.items ≡ l.fn.reply.items ++ take l.byte-index l.piece;
  length : vec_len l.reply ≡ vec_len l.fn.reply + l.byte-index;
  capacity : vec_capacity l.reply ≡ vec_capacity l.fn.reply;
}
