use Rattle.std.proofs.Common.{◌≡◌, flat_map, List, ℕ, get_or, take, take_all, ap, sym}
use Rattle.reconstruction.specs.Ways.{edge_at, way_numbers}
use Rattle.reconstruction.proofs.Growths.{grew-none}
use Rattle.reconstruction.proofs.Used.{within-in, flat-more, grew-ways}
use Rattle.reconstruction.proofs.Ways.{edge-get, grew-as, grew-more}
use Rattle.reconstruction.proofs.heads.grow_edges.Goals as goal

pub loop-edge-init : goal.loop-edge-init
loop-edge-init c = grew-none _ _ _ _ c.requires.children

pub grow_edge-requires-clause-in_range : goal.grow_edge-requires-clause-in_range
grow_edge-requires-clause-in_range c = (within-in _ _ c.args.tables.now.edges c.args.parent.place.state _ _ _ (c.requires.usable c.args.parent.place.state) c.usable_at-edges.ensures.within c.loop-edge.edge-index c.loop-edge-test.true).0

pub grow_edge-requires-clause-way : goal.grow_edge-requires-clause-way
grow_edge-requires-clause-way c =
    let es = c.args.tables.now.edges in
    let m = get_or c.usable_at-edges.result.now c.loop-edge.edge-index 0 in
    let in_state = within-in _ _ es c.args.parent.place.state _ _ _ (c.requires.usable c.args.parent.place.state) c.usable_at-edges.ensures.within c.loop-edge.edge-index c.loop-edge-test.true in
    c.requires.ways m (edge_at es m) (edge-get es m in_state.0) in_state.1

pub loop-edge-preserved : goal.loop-edge-preserved
loop-edge-preserved c = grew-more _ _ _ _ c.args.parent _ _ _ _ _ _ c.requires.parent c.loop-edge.invariant c.in_ok-grow_edge.ensures.grew (flat-more (λ m. way_numbers c.args.tables.now.env c.args.tables.now.edges (edge_at c.args.tables.now.edges m)) c.usable_at-edges.result.now c.loop-edge.edge-index c.loop-edge-test.true)

pub returns-clause-grew : goal.returns-clause-grew
returns-clause-grew c =
    let t = c.args.tables.now in
    let part : List ℕ = c.usable_at-edges.result.now in
    let all : take c.loop-edge.edge-index part ≡ part = take_all c.loop-edge.edge-index part c.loop-edge-test.false in
    grew-ways t _ _ c.args.parent c.requires.parent c.requires.floors c.args.parent.place.state _ _ part (c.requires.usable c.args.parent.place.state) c.usable_at-edges.ensures.within _ _ c.room_of.ensures.room c.requires.ways
    (grew-as _ _ _ _ _ _ _ _ (ap (flat_map (λ m. way_numbers c.args.tables.now.env c.args.tables.now.edges (edge_at t.edges m))) (sym all)) c.loop-edge.invariant)
