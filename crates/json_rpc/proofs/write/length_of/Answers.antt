use Rattle.std.proofs.Common.{arith, rules, ap, ◌∙◌, length}
use Rattle.json_rpc.proofs.Pieces.{length-next, pieces-all}
use Rattle.json_rpc.proofs.write.length_of.Goals as goal

pub loop-piece-preserved : goal.loop-piece-preserved
loop-piece-preserved c = record {
  length = length-next c.args.pieces.now c.loop-piece.piece-index _ _ _ (search rules) c.loop-piece.invariant.length c.piece_length-length.ensures.length;
  bound = omega (arith, c.loop-piece.invariant.bound, c.piece_length-length.ensures.bound);
}

pub returns : goal.returns
returns c = c.loop-piece.invariant.length ∙ ap length (pieces-all c.args.pieces.now c.loop-piece.piece-index (search rules))
