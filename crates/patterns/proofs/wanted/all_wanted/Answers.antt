use Rattle.std.proofs.Common.{refl, arith}
use Rattle.patterns.proofs.Tables.{wanted-more, length-pushed}
use Rattle.patterns.proofs.wanted.all_wanted.Goals as goal

pub loop-i-preserved : goal.loop-i-preserved
loop-i-preserved c = record {
  long = length-pushed _ _ _ _ c.in_ok-push.ensures.ok c.loop-i.invariant.long;
  wanted = wanted-more c.args.needs.now _ _ c.loop-i.i c.index-needs-i.result _ (omega arith) c.index-needs-i.is (record { lambda = refl; goal = refl; number = refl }) c.in_ok-push.ensures.ok c.loop-i.invariant.long c.loop-i.invariant.wanted;
}
