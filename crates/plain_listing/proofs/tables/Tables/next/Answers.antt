use Rattle.std.proofs.Common.{◌≡◌, ◌≤◌, ◌∙◌, ℕ, List, map, slice_get, ap, sym, subst, length, arith}
use Rattle.terms.specs.View.{expr}
use Rattle.terms.specs.Count.{expr_eq, once_if, count}
use Rattle.terms.specs.Listing.{Progress, level_of}
use Rattle.terms.specs.declared.parts.Parts.{Parts}
use Rattle.terms.specs.declared.term.Term.{Term}
use Rattle.plain_listing.specs.Tables.{for_type, AreRight, IsRow}
use Rattle.plain_listing.proofs.Ranges.{ranges}
use Rattle.plain_listing.proofs.Growing.{grown, level_made}
use Rattle.plain_listing.proofs.tables.Tables.next.Goals as goal

pub row-requires : goal.row-requires
row-requires c =
    let t = c.self.inside in
    let P : Progress → Type 0 = λ v. v.from ≤ v.parts.limit in
    let within : length t.rows.items ≤ t.env.limit = subst P (sym c.self.view_is) c.requires in
    let few = (ranges t.env c.self.invariant.0).limit in
    let same = ap (λ (rs : List (List (List (List Term)))). length rs) c.as_slice-rows.ensures.value in
    omega (arith, within, few, same)

pub invariant_of-self-2 : goal.invariant_of-self-2
invariant_of-self-2 c =
    let t = c.self.inside in
    let g = t.env in
    let P : Progress → Type 0 = λ v. v.from ≤ v.parts.limit in
    let within : length t.rows.items ≤ g.limit = subst P (sym c.self.view_is) c.requires in
    let Q : List (List (List ℕ)) → Type 0 = λ cs. IsRow g g.depth cs c.as_slice-rows.result.now c.in_ok-row.row (length cs) in
    let S : List (List (List (List Term))) → Type 0 = λ rs. IsRow g g.depth t.contexts rs c.in_ok-row.row (length t.contexts) in
    let D : Parts → Type 0 = λ p. IsRow g p.depth c.as_slice.result.now c.as_slice-rows.result.now c.in_ok-row.row (length c.as_slice.result.now) in
    let made_row = subst S c.as_slice-rows.ensures.value (subst Q c.as_slice.ensures (subst D c.parts.ensures.value c.in_ok-row.ensures)) in
    let more = grown g g.depth t.contexts t.rows.items c.in_ok-row.row (ranges g c.self.invariant.0).depth (ranges g c.self.invariant.0) c.self.invariant.1 within c.self.invariant.2 made_row in
    let N : List (List (List (List Term))) → Type 0 = λ rs. AreRight g g.depth t.contexts rs (length rs) in
    (c.self.invariant.0, c.self.invariant.1, subst N (sym c.in_ok-push.ensures.items) more)

pub returns-clause-all : goal.returns-clause-all
returns-clause-all c e =
    let t = c.self.inside in
    let g = t.env in
    let P : Progress → Type 0 = λ v. v.from ≤ v.parts.limit in
    let within : length t.rows.items ≤ g.limit = subst P (sym c.self.view_is) c.requires in
    let Q : List (List (List ℕ)) → Type 0 = λ cs. IsRow g g.depth cs c.as_slice-rows.result.now c.in_ok-row.row (length cs) in
    let S : List (List (List (List Term))) → Type 0 = λ rs. IsRow g g.depth t.contexts rs c.in_ok-row.row (length t.contexts) in
    let D : Parts → Type 0 = λ p. IsRow g p.depth c.as_slice.result.now c.as_slice-rows.result.now c.in_ok-row.row (length c.as_slice.result.now) in
    let made_row = subst S c.as_slice-rows.ensures.value (subst Q c.as_slice.ensures (subst D c.parts.ensures.value c.in_ok-row.ensures)) in
    let shown = ap (λ (ts : List Term). map expr ts) c.in_ok-terms.ensures ∙ c.in_context.ensures ∙ ap (λ (p : Parts). for_type (slice_get c.in_ok-row.row 0) p.goal) c.parts-2.ensures.value in
    let L : Progress → Type 0 = λ v. count (expr_eq e) (map expr c.in_ok-terms.terms) ≡ once_if (level_of v.parts v.from e) in
    subst L c.self.view_is (ap (count (expr_eq e)) shown ∙ level_made g t.contexts t.rows.items c.in_ok-row.row (ranges g c.self.invariant.0) c.self.invariant.1 within c.self.invariant.2 made_row e)
