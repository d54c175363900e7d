use Rattle.std.proofs.Common.{sym, subst}
use Rattle.offers.specs.Sorting.{Rises}
use Rattle.offers.proofs.Places.{taken-last, none-taken}
use Rattle.offers.proofs.Searches.{sorted-rises}
use Rattle.offers.proofs.key_order.in_order.Goals as goal

pub loop-item-init : goal.loop-item-init
loop-item-init g c = none-taken g.T.Keyed.key_of c.args.items c.new-all.result.items c.new-all.ensures.items

pub put_item-requires : goal.put_item-requires
put_item-requires g c = subst (Rises g.T.Keyed.key_of) (sym c.loop-item.invariant.2) (sorted-rises g.T.Keyed.key_of c.loop-item.invariant.0)

pub loop-item-preserved : goal.loop-item-preserved
loop-item-preserved g c = taken-last g.T.Keyed.key_of c.args.items c.loop-item.left c.pop.new.self c.loop-item.invariant.0 c.in-Some.item c.loop-item.all.items c.put_item.new.all.items c.loop-item.invariant.1 c.in-Some.ensures c.loop-item.invariant.2 c.in_ok-put_item.ensures
