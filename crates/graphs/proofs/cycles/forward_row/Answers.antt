use Rattle.std.proofs.Common.{rules}
use Rattle.graphs.specs.Graph.{Reaches}
use Rattle.graphs.proofs.Rows.{none-kept, kept-next, kept-over, forward-row}
use Rattle.graphs.proofs.cycles.forward_row.Goals as goal

pub loop-next-init : goal.loop-next-init
loop-next-init c = none-kept (λ b. Reaches c.args.numbered.now.graph.now b c.args.node) c.new-kept.result (search rules)

pub loop-next-preserved-then-branch : goal.loop-next-preserved-then-branch
loop-next-preserved-then-branch c = kept-over (λ b. Reaches c.args.numbered.now.graph.now b c.args.node) c.row-nodes.result.now c.loop-next.kept c.loop-next.next-index c.in_ok-comes_back.field-0 (search rules) c.loop-next.invariant (c.in_ok-comes_back.ensures.0) c.if-branch.true

pub loop-next-preserved : goal.loop-next-preserved
loop-next-preserved c = kept-next (λ b. Reaches c.args.numbered.now.graph.now b c.args.node) c.row-nodes.result.now c.loop-next.kept c.push.new.self c.loop-next.next-index c.in_ok-comes_back.field-0 (search rules) c.loop-next.invariant (c.in_ok-comes_back.ensures.1) c.if-branch.false c.in_ok-push.ensures.ok

pub returns : goal.returns
returns c = forward-row c.args.numbered.now.graph.now c.args.node c.row-nodes.result.now c.loop-next.kept c.loop-next.next-index c.row-nodes.ensures (search rules) c.loop-next.invariant
