use Rattle.subtyping.proofs.Searching.{ancestors-permuted, rises-sorted}
use Rattle.subtyping.proofs.supers.row_above.Goals as goal

pub returns-clause-exact : goal.returns-clause-exact
returns-clause-exact c = ancestors-permuted c.args.graph.now c.args.node _ _ c.from_vec.result c.sort_unstable.ensures.permutation c.from_vec.ensures c.in_ok-nodes.ensures.exact

pub returns-clause-rises : goal.returns-clause-rises
returns-clause-rises c = rises-sorted _ c.from_vec.result c.from_vec.ensures c.sort_unstable.ensures.sorted
