use Rattle.std.proofs.Common.{sym, ap, subst}
use Rattle.std.proofs.lemmas.Result.{on_ok_weaker}
use Rattle.reconstruction.specs.Ways.{edge_at, way_numbers_by, AreHeadsAt, IsWayBy}
use Rattle.reconstruction.proofs.Ways.{grew-as}
use Rattle.reconstruction.proofs.heads.grow_edge.Goals as goal

pub grow_heads-requires-clause-turns : goal.grow_heads-requires-clause-turns
grow_heads-requires-clause-turns c = subst (λ n. AreHeadsAt c.args.tables.now c.args.parent.place n c.in-Some.lower) (sym c.coercion_weight-coercion.ensures.value) (subst (IsWayBy c.args.tables.now c.args.parent.place c.args.edge (edge_at c.args.tables.now.edges c.args.edge)) (sym c.in-Some.ensures.value) c.requires.way)

pub grow_head-requires-clause-turn : goal.grow_head-requires-clause-turn
grow_head-requires-clause-turn c = subst (IsWayBy c.args.tables.now c.args.parent.place c.args.edge (edge_at c.args.tables.now.edges c.args.edge)) (sym c.in-None.ensures.value) c.requires.way

pub returns-in-None-clause-grew : goal.returns-in-None-clause-grew
returns-in-None-clause-grew c = on_ok_weaker c.grow_head.result (λ g. grew-as _ _ _ _ _ _ _ _ (ap (way_numbers_by c.args.tables.now.env c.args.tables.now.edges (edge_at c.args.tables.now.edges c.args.edge)) (sym c.in-None.ensures.value)) g) c.grow_head.ensures.grew

pub returns-in-Some-clause-grew : goal.returns-in-Some-clause-grew
returns-in-Some-clause-grew c = on_ok_weaker c.grow_heads.result (λ g. grew-as _ _ _ _ _ _ _ _ (ap (way_numbers_by c.args.tables.now.env c.args.tables.now.edges (edge_at c.args.tables.now.edges c.args.edge)) (sym c.in-Some.ensures.value)) g) c.grow_heads.ensures.grew
