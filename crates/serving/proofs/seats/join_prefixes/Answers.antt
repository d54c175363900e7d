use Rattle.std.proofs.Common.{◌++◌}
use Rattle.serving.specs.declared.seats.Seat.{Seat}
use Rattle.serving.proofs.Seated.{prefix-trans, prefix-behind, more-begin}
use Rattle.serving.proofs.seats.join_prefixes.Goals as goal

pub loop-seat-preserved : goal.loop-seat-preserved
loop-seat-preserved g c =
    let first = g.J.Naming.first in
    let seen = λ (x : Seat g.row.J.Denot g.row.S.Denot g.row.K.Denot g.row.H.Denot). x.pass.seen in
    record {
      longer = prefix-trans c.args.first c.loop-seat.longest c.longer-longest.result c.loop-seat.invariant.longer c.longer-longest.ensures.this;
      all = more-begin seen c.args.seats.now c.loop-seat.seat-index (first ++ c.loop-seat.longest) (first ++ c.longer-longest.result) c.seat-item.result c.loop-seat-test.true
          c.loop-seat.invariant.all
          (prefix-behind first c.loop-seat.longest c.longer-longest.result c.longer-longest.ensures.this)
          c.seat-item.is
          (rw (← c.prefix.ensures.history) (prefix-behind first c.prefix.result.now c.longer-longest.result c.longer-longest.ensures.that));
    }
