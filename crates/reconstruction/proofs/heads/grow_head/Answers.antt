use Rattle.std.proofs.Common.{◌≡◌, ◌+◌, ◌*◌, ℕ, List, Some, None, get_or, ◌∙◌, sym, ap, subst, arith}
use Rattle.std.proofs.lemmas.Result.{on_ok_weaker}
use Rattle.terms.proofs.Valid.{valid-limit}
use Rattle.terms.proofs.Weighing.{coercion-most}
use Rattle.reconstruction.specs.Tabled.{place_by_numbers, numbered_under, IsTurn}
use Rattle.reconstruction.specs.Totals.{declared_in, lambdas_under}
use Rattle.reconstruction.specs.Ways.{edge_at, numbers_of_head}
use Rattle.reconstruction.proofs.Growths.{grew-none}
use Rattle.reconstruction.proofs.Rows.{head-turn}
use Rattle.reconstruction.proofs.Ways.{edge-get, grew-as}
use Rattle.reconstruction.proofs.heads.grow_head.Goals as goal

pub overflow_add-total : goal.overflow_add-total
overflow_add-total c =
    let t = c.args.tables.now in
    let at = edge-get t.edges c.args.edge c.requires.in_range in
    let small = (c.requires.totals.each c.args.edge (edge_at t.edges c.args.edge) at).small in
    let low = valid-limit t.env c.requires.valid in
    omega (arith, small, low.1, coercion-most t.env c.requires.valid, c.total_at.ensures.value, c.requires.step)

pub grow_decl-requires-clause-number : goal.grow_decl-requires-clause-number
grow_decl-requires-clause-number c =
    let t = c.args.tables.now in
    let e = edge_at t.edges c.args.edge in
    let at = edge-get t.edges c.args.edge c.requires.in_range in
    let is : declared_in t.env e.source ≡ Some c.in-Some.decl = sym (c.in-Some.ensures.value ∙ ap (λ g. declared_in g c.source.result) c.parts.ensures.value ∙ ap (declared_in t.env) (c.source.ensures.value e at)) in
    (head-turn t c.args.parent.place c.args.step c.in-Some.decl (get_or t.totals c.args.edge 0) (declared_in t.env e.source) e.tails c.requires.turn is).number

pub grow_decl-requires-clause-turn : goal.grow_decl-requires-clause-turn
grow_decl-requires-clause-turn c =
    let t = c.args.tables.now in
    let p = c.args.parent.place in
    let k = c.in-Some.decl in
    let e = edge_at t.edges c.args.edge in
    let at = edge-get t.edges c.args.edge c.requires.in_range in
    let is : declared_in t.env e.source ≡ Some k = sym (c.in-Some.ensures.value ∙ ap (λ g. declared_in g c.source.result) c.parts.ensures.value ∙ ap (declared_in t.env) (c.source.ensures.value e at)) in
    let w : ℕ = get_or t.totals c.args.edge 0 in
    let turn : IsTurn t (place_by_numbers t p) (2 * k + 1) (w + c.args.step) (numbered_under (lambdas_under t.env p.lambdas k) e.tails) = (head-turn t p c.args.step k w (declared_in t.env e.source) e.tails c.requires.turn is).head in
    subst (λ (n : ℕ). IsTurn t (place_by_numbers t p) (2 * k + 1) (n + c.args.step) (numbered_under (lambdas_under t.env p.lambdas k) c.tails.result.now)) (sym c.total_at.ensures.value)
    (subst (λ (l : List ℕ). IsTurn t (place_by_numbers t p) (2 * k + 1) (w + c.args.step) (numbered_under (lambdas_under t.env p.lambdas k) l)) (sym (c.tails.ensures.value e at)) turn)

pub returns-in-Some-clause-grew : goal.returns-in-Some-clause-grew
returns-in-Some-clause-grew c =
    let t = c.args.tables.now in
    let e = edge_at t.edges c.args.edge in
    let at = edge-get t.edges c.args.edge c.requires.in_range in
    let is : declared_in t.env e.source ≡ Some c.in-Some.decl = sym (c.in-Some.ensures.value ∙ ap (λ g. declared_in g c.source.result) c.parts.ensures.value ∙ ap (declared_in t.env) (c.source.ensures.value e at)) in
    on_ok_weaker c.grow_decl.result (λ g. grew-as _ _ _ _ _ _ _ _ (ap numbers_of_head is) g) c.grow_decl.ensures.grew

pub returns-in-None-clause-grew : goal.returns-in-None-clause-grew
returns-in-None-clause-grew c =
    let t = c.args.tables.now in
    let e = edge_at t.edges c.args.edge in
    let at = edge-get t.edges c.args.edge c.requires.in_range in
    let is : declared_in t.env e.source ≡ None = sym (c.in-None.ensures.value ∙ ap (λ g. declared_in g c.source.result) c.parts.ensures.value ∙ ap (declared_in t.env) (c.source.ensures.value e at)) in
    grew-as _ _ _ _ _ _ _ _ (ap numbers_of_head is) (grew-none _ _ _ _ c.requires.children)
