use Rattle.std.proofs.Common.{rules, ◌≡◌, ◌<◌, ◌≤◌, ◌∙◌, sym, ℕ, length, get_or, Contains}
use Rattle.std.proofs.lemmas.List.{get_or_default}
use Rattle.graphs.specs.Graph.{edges}
use Rattle.graphs.specs.Marking.{Work, mark_row}
use Rattle.graphs.proofs.Marks.{row_is}
use Rattle.graphs.proofs.Once.{fresh-is}
use Rattle.graphs.proofs.Listing.{longer-is, listing-first, listing-more, listing-all, listing-smaller}
use Rattle.graphs.proofs.reach.list_reached.Goals as goal

pub mark_row-requires : goal.mark_row-requires
mark_row-requires c b h = rw c.requires.marks.0 (c.requires.range c.args.from b (rw c.row.ensures at h))

pub loop-next-init : goal.loop-next-init
loop-next-init c =
    let w : Work = (c.args.marks.now.items, c.args.found.now.items) in
    let v : Work = (c.mark_row.new.marks.items, c.mark_row.new.worklist.items) in
    let bs = edges c.args.graph.now c.args.from in
    let within : (b : ℕ) → Contains bs b → b < length w.0 = λ b h. rw c.requires.marks.0 (c.requires.range c.args.from b h) in
    let work : v ≡ mark_row w bs = search rules in
    listing-first c.args.graph.now c.args.from w v (row_is bs w v within work) (fresh-is bs w v within work) c.requires.marks.0 c.requires.marks.1 c.requires.empty

pub mark_row-requires-in-loop-next : goal.mark_row-requires-in-loop-next
mark_row-requires-in-loop-next c b h = rw c.loop-next.invariant.long (c.requires.range c.index-node.result.now b (rw c.row-in-loop-next.ensures at h))

pub loop-next-smaller : goal.loop-next-smaller
loop-next-smaller c =
    let fs = c.loop-next.found.items in
    let w : Work = (c.loop-next.marks.items, fs) in
    let v : Work = (c.mark_row-in-loop-next.new.marks.items, c.mark_row-in-loop-next.new.worklist.items) in
    let bs = edges c.args.graph.now c.index-node.result.now in
    let within : (b : ℕ) → Contains bs b → b < length w.0 = λ b h. rw c.loop-next.invariant.long (c.requires.range c.index-node.result.now b h) in
    let work : v ≡ mark_row w bs = search rules in
    let inside : c.loop-next.next < length fs = search rules in
    listing-smaller c.loop-next.marks.items fs bs c.loop-next.next v (row_is bs w v within work) inside (longer-is bs w v work)

pub loop-next-preserved : goal.loop-next-preserved
loop-next-preserved c =
    let fs = c.loop-next.found.items in
    let node = c.index-node.result.now in
    let w : Work = (c.loop-next.marks.items, fs) in
    let v : Work = (c.mark_row-in-loop-next.new.marks.items, c.mark_row-in-loop-next.new.worklist.items) in
    let bs = edges c.args.graph.now node in
    let within : (b : ℕ) → Contains bs b → b < length w.0 = λ b h. rw c.loop-next.invariant.long (c.requires.range node b h) in
    let work : v ≡ mark_row w bs = search rules in
    let inside : c.loop-next.next < length fs = search rules in
    let is : node ≡ get_or fs c.loop-next.next 0 = c.index-node.ensures ∙ sym (get_or_default fs c.loop-next.next 0 node inside) in
    listing-more c.args.graph.now c.args.from node c.loop-next.marks.items fs c.loop-next.next v c.loop-next.invariant inside is (row_is bs w v within work) (fresh-is bs w v within work) (longer-is bs w v work)

pub returns-clause-exact : goal.returns-clause-exact
returns-clause-exact c =
    let over : length c.loop-next.found.items ≤ c.loop-next.next = search rules in
    listing-all c.args.graph.now c.args.from c.loop-next.marks.items c.loop-next.found.items c.loop-next.next c.loop-next.invariant over

pub returns-clause-distinct : goal.returns-clause-distinct
returns-clause-distinct c = c.loop-next.invariant.once
