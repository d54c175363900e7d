use Rattle.std.proofs.Common.{rules, ◌≡◌, ◌+◌, ◌++◌, ◌∷◌, [], subst, sym}
use Rattle.graphs.proofs.Rows.{AreForwardRows, forward-all, forward-more}
use Rattle.graphs.proofs.cycles.without_cycles.Goals as goal

pub loop-node-preserved : goal.loop-node-preserved
loop-node-preserved c =
    let more : c.push.new.self ≡ c.loop-node.rows ++ c.in_ok-forward_row.field-0 ∷ [] = search rules in
    subst (λ rows. AreForwardRows c.args.graph.now rows (c.loop-node.node + 1)) (sym more) (forward-more c.args.graph.now c.loop-node.rows c.in_ok-forward_row.field-0 c.loop-node.node c.loop-node.invariant c.in_ok-forward_row.ensures)

pub returns : goal.returns
returns c = record { exact = forward-all c.args.graph.now c.loop-node.rows c.loop-node.node (search rules) c.loop-node.invariant }
