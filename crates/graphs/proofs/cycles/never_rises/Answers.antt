use Rattle.std.proofs.Common.{rules}
use Rattle.graphs.proofs.Ranks.{rises_more, rises_end}
use Rattle.graphs.proofs.cycles.never_rises.Goals as goal

pub loop-node-preserved : goal.loop-node-preserved
loop-node-preserved c = rises_more c.args.graph.now c.args.numbers.now c.loop-node.node c.loop-node.invariant (search rules)

pub returns : goal.returns
returns c e = rises_end c.args.graph.now c.args.numbers.now c.loop-node.node c.loop-node.invariant (search rules)
