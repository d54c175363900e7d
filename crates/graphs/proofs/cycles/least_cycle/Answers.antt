use Rattle.std.proofs.Common.{rules}
use Rattle.graphs.proofs.Ranks.{skipped, cleared, acyclic_all}
use Rattle.graphs.proofs.cycles.least_cycle.Goals as goal

pub loop-node-preserved-then-node-skip : goal.loop-node-preserved-then-node-skip
loop-node-preserved-then-node-skip c = skipped c.args.graph.now c.args.skip c.loop-node.node c.loop-node.invariant (search rules)

pub loop-node-preserved : goal.loop-node-preserved
loop-node-preserved c = cleared c.args.graph.now c.args.skip c.loop-node.node c.loop-node.invariant (search rules)

pub returns : goal.returns
returns c = record { exact = acyclic_all c.args.graph.now c.args.skip c.loop-node.node c.loop-node.invariant (search rules) }
