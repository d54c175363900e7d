use Rattle.std.proofs.Common.{rules, ◌≡◌, length, false, replicate}
use Rattle.graphs.specs.Graph.{edges}
use Rattle.graphs.proofs.Marks.{row_is, begins, goes_on, ends, none_marked, smaller}
use Rattle.graphs.proofs.reach.reached.Goals as goal

pub mark_row-requires : goal.mark_row-requires
mark_row-requires c b h =
    let long : length c.in_ok-marks.marks.items ≡ length c.args.graph.now = search rules in
    rw long (c.requires.range c.args.from b (rw c.row.ensures at h))

pub mark_row-requires-in-Some : goal.mark_row-requires-in-Some
mark_row-requires-in-Some c b h = rw c.loop-node.invariant.long (c.requires.range c.in-Some.node b (rw c.row-in-Some.ensures at h))

pub loop-node-init : goal.loop-node-init
loop-node-init c =
    let long : length c.in_ok-marks.marks.items ≡ length c.args.graph.now = search rules in
    let none : c.in_ok-marks.marks.items ≡ replicate (length c.args.graph.now) false = search rules in
    begins c.args.graph.now c.args.from (c.in_ok-marks.marks.items, c.new-worklist.result.items) (c.mark_row.new.marks.items, c.mark_row.new.worklist.items)
    (row_is (edges c.args.graph.now c.args.from) _ _ (λ b h. rw long (c.requires.range c.args.from b h)) (search rules))
    long (λ k. rw none (none_marked (length c.args.graph.now) k)) (search rules)

pub loop-node-smaller : goal.loop-node-smaller
loop-node-smaller c =
    let m = row_is (edges c.args.graph.now c.in-Some.node) (c.loop-node.marks.items, c.pop.new.self.items) (c.mark_row-in-Some.new.marks.items, c.mark_row-in-Some.new.worklist.items) (λ b h. rw c.loop-node.invariant.long (c.requires.range c.in-Some.node b h)) (search rules) in
    smaller c.loop-node.marks.items c.loop-node.worklist.items c.pop.new.self.items (edges c.args.graph.now c.in-Some.node) c.in-Some.node (c.mark_row-in-Some.new.marks.items, c.mark_row-in-Some.new.worklist.items) m (search rules)

pub loop-node-preserved : goal.loop-node-preserved
loop-node-preserved c =
    goes_on c.args.graph.now c.args.from c.in-Some.node c.loop-node.marks.items c.loop-node.worklist.items c.pop.new.self.items (c.mark_row-in-Some.new.marks.items, c.mark_row-in-Some.new.worklist.items)
    c.loop-node.invariant (search rules)
    (row_is (edges c.args.graph.now c.in-Some.node) _ _ (λ b h. rw c.loop-node.invariant.long (c.requires.range c.in-Some.node b h)) (search rules))

pub returns : goal.returns
returns c = record { exact = ends c.args.graph.now c.args.from c.loop-node.marks.items c.loop-node.worklist.items c.loop-node.invariant (search rules) }
