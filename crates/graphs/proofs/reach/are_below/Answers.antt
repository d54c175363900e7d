use Rattle.graphs.proofs.Elements.{none_in}
use Rattle.std.proofs.Common.{rules}
use Rattle.graphs.proofs.Rows.{bound-more, bound-all, not-below}
use Rattle.graphs.proofs.reach.are_below.Goals as goal

pub loop-node-init : goal.loop-node-init
loop-node-init c b h = none_in b h

pub returns-then-node-bound-clause-complete : goal.returns-then-node-bound-clause-complete
returns-then-node-bound-clause-complete c below = not-below c.args.nodes.now c.loop-node.node-index c.args.bound (search rules) (search rules) below

pub loop-node-preserved : goal.loop-node-preserved
loop-node-preserved c = bound-more c.args.nodes.now c.loop-node.node-index c.args.bound (search rules) c.loop-node.invariant (search rules)

pub returns-clause-sound : goal.returns-clause-sound
returns-clause-sound c h = bound-all c.args.nodes.now c.loop-node.node-index c.args.bound (search rules) c.loop-node.invariant
