use Rattle.decl_index.proofs.CountLemmas.{pairs-rise}
use Rattle.decl_index.proofs.counts.have_order.Goals as goal

pub returns : goal.returns
returns c = pairs-rise c.args.counts.now c.len.ensures.ordered
