use Rattle.std.proofs.Common.{rules}
use Rattle.graphs.proofs.Turning.{part-none, part-more, part-all}
use Rattle.graphs.proofs.joined.within.Goals as goal

pub loop-node-init : goal.loop-node-init
loop-node-init c = part-none c.args.graph.now c.new-rows.result.items (search rules)

pub loop-node-preserved : goal.loop-node-preserved
loop-node-preserved c = part-more c.args.graph.now c.loop-node.rows.items c.push.new.self.items c.in_ok-row_within.field-0 c.loop-node.node c.loop-node.invariant (λ b h. rw c.row.ensures at (c.in_ok-row_within.ensures b h)) (search rules)

pub returns : goal.returns
returns c = part-all c.args.graph.now c.loop-node.rows.items c.loop-node.node (search rules) c.loop-node.invariant
