use Rattle.std.proofs.Common.{arith}
use Rattle.outside.proofs.Pieces.{appends_more, rest_is}
use Rattle.outside.proofs.sink.write_all.Goals as goal

pub loop-done-preserved : goal.loop-done-preserved
loop-done-preserved g c =
    let d = c.loop-done.done in
    let p = c.args.piece.now in
    record {
      within = grind (arith, rest_is p d, c.in_ok-done.ensures.taken.0);
      prefix = appends_more _ _ _ d c.in_ok-done.field-0 p _ (rest_is p d) c.loop-done.invariant.prefix c.in_ok-done.ensures.bytes;
      later = omega (arith, c.loop-done.invariant.later, c.in_ok-done.ensures.cause.later);
    }
