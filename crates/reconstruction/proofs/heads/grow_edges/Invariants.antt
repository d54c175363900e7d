use Rattle.std.proofs.Common.{flat_map, take}
use Rattle.reconstruction.specs.Tabled.{front_of, Grew}
use Rattle.reconstruction.specs.Ways.{edge_at, way_numbers}
use Rattle.reconstruction.proofs.heads.grow_edges.Given as goal

abbrev pub invariant-loop-edge : goal.invariant-loop-edge
invariant-loop-edge l = Grew l.initial.tables l.fn.arena l.arena (front_of l.fn.arena l.initial.parent.front) (flat_map (λ m. way_numbers l.initial.tables.env l.initial.tables.edges (edge_at l.initial.tables.edges m)) (take l.edge-index l.initial.edges)) l.fn.children.items l.children.items
