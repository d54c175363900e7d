use Rattle.std.proofs.Common.{◌∙◌, sym, subst, arith, length, drop}
use Rattle.offers.specs.Sorting.{Rises}
use Rattle.offers.proofs.Places.{sorted-start, sorted-on}
use Rattle.offers.proofs.Searches.{sorted-rises}
use Rattle.offers.proofs.key_order.sorted.Goals as goal

pub loop-left-init : goal.loop-left-init
loop-left-init g c = (c.new-all.ensures.items ∙ sorted-start g.T.Keyed.key_of c.args.items.now (length c.args.items.now) (omega arith), omega arith)

pub loop-left-preserved : goal.loop-left-preserved
loop-left-preserved g c = (sorted-on g.T.Keyed.key_of c.args.items.now c.loop-left.all.items c.put.new.all.items c.loop-left.left c.index-items-left.result (omega arith) c.loop-left.invariant.1 c.index-items-left.is c.loop-left.invariant.0 c.in_ok-put.ensures, omega arith)

pub put-requires : goal.put-requires
put-requires g c = subst (Rises g.T.Keyed.key_of) (sym c.loop-left.invariant.0) (sorted-rises g.T.Keyed.key_of (drop c.loop-left.left c.args.items.now))
