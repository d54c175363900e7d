use Rattle.std.proofs.Common.{rules, ◌≡◌, true, length}
use Rattle.graphs.proofs.Rows.{rows-more, rows-all}
use Rattle.graphs.proofs.reach.is_in_range.Goals as goal

pub returns-then-not-are_below-clause-complete : goal.returns-then-not-are_below-clause-complete
returns-then-not-are_below-clause-complete c h =
    let all : c.are_below.result ≡ true = c.are_below.ensures.complete (λ b k. h c.loop-node.node b (rw c.row.ensures at k)) in cc

pub loop-node-preserved : goal.loop-node-preserved
loop-node-preserved c = rows-more c.args.graph.now c.loop-node.node (length c.args.graph.now) c.loop-node.invariant (λ b h. c.are_below.ensures.sound (search rules) b (rw c.row.ensures h))

pub returns-clause-sound : goal.returns-clause-sound
returns-clause-sound c h = rows-all c.args.graph.now c.loop-node.node (length c.args.graph.now) (search rules) c.loop-node.invariant
