use Rattle.std.proofs.Common.{arith, rules, subst}
use Rattle.std.specs.Io.KnownBytes.{Appends}
use Rattle.json_rpc.proofs.Pieces.{on_err, pieces-all, pieces-next, pieces-prefix}
use Rattle.json_rpc.proofs.write.write_pieces.Goals as goal

pub loop-piece-preserved : goal.loop-piece-preserved
loop-piece-preserved g c = record {
  wrote = pieces-next _ _ _ c.args.pieces.now c.loop-piece.piece-index _ (search rules) c.loop-piece.invariant.wrote c.in_ok-write_piece.ensures.all;
  later = omega (arith, c.loop-piece.invariant.later, c.write_piece.ensures.cause.later);
}

pub returns-in_err-write_piece-clause-prefix : goal.returns-in_err-write_piece-clause-prefix
returns-in_err-write_piece-clause-prefix g c = on_err _ (pieces-prefix _ _ _ c.args.pieces.now c.loop-piece.piece-index _ (search rules) c.loop-piece.invariant.wrote c.in_err-write_piece.ensures.prefix)

pub returns-clause-all : goal.returns-clause-all
returns-clause-all g c = subst (λ t. Appends (g.K.Sink.written c.args.sink.now) (g.K.Sink.written c.loop-piece.sink) t) (pieces-all c.args.pieces.now c.loop-piece.piece-index (search rules)) c.loop-piece.invariant.wrote
