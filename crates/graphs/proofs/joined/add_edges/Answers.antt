use Rattle.std.proofs.Common.{rules}
use Rattle.graphs.proofs.Turning.{added-none, added-more, added-all}
use Rattle.graphs.proofs.joined.add_edges.Goals as goal

pub loop-node-init : goal.loop-node-init
loop-node-init c = added-none c.args.rows.now.items c.args.to

pub loop-node-preserved : goal.loop-node-preserved
loop-node-preserved c = added-more c.args.rows.now.items c.loop-node.rows.items c.add_edge.new.rows.items c.args.nodes.now c.args.to c.loop-node.node-index (search rules) c.loop-node.invariant c.add_edge.ensures.long c.in_ok-add_edge.ensures.added

pub returns-clause-added : goal.returns-clause-added
returns-clause-added c = added-all c.args.rows.now.items c.loop-node.rows.items c.args.nodes.now c.args.to c.loop-node.node-index (search rules) c.loop-node.invariant
