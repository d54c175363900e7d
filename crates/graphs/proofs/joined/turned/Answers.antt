use Rattle.std.proofs.Common.{rules}
use Rattle.graphs.proofs.Turning.{turned-none, turned-more, turned-all}
use Rattle.graphs.proofs.joined.turned.Goals as goal

pub loop-node-init : goal.loop-node-init
loop-node-init c = turned-none c.args.graph.now c.in_ok-rows.rows.items c.in_ok-rows.ensures.long c.in_ok-rows.ensures.none

pub loop-node-preserved : goal.loop-node-preserved
loop-node-preserved c = turned-more c.args.graph.now c.loop-node.rows.items c.add_edges.new.rows.items c.row.result.now c.loop-node.node c.loop-node.invariant (search rules) c.add_edges.ensures.long c.in_ok-add_edges.ensures.added

pub returns : goal.returns
returns c = turned-all c.args.graph.now c.loop-node.rows.items c.loop-node.invariant
