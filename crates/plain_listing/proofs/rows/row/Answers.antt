use Rattle.std.proofs.Common.{◌+◌, List, ℕ, refl, sym, subst, arith}
use Rattle.std.proofs.lemmas.Option.{slice_get_read}
use Rattle.terms.specs.declared.term.Term.{Term}
use Rattle.plain_listing.specs.Tables.{IsColumn, IsRow}
use Rattle.plain_listing.proofs.Growing.{row_more}
use Rattle.plain_listing.proofs.rows.row.Goals as goal

pub loop-n-preserved : goal.loop-n-preserved
loop-n-preserved c =
    let g = c.args.env.now in
    let contexts = c.args.contexts.now in
    let rows = c.args.rows.now in
    let R : List (List (List Term)) → Type 0 = λ x. IsRow g c.args.depth contexts rows x (c.loop-n.n + 1) in
    let C : List (List ℕ) → Type 0 = λ x. IsColumn g c.args.depth contexts rows c.in_ok-column_in.field-0 c.loop-n.n x in
    let at = slice_get_read contexts _ c.loop-n.n c.index-contexts-n.result refl (omega arith) c.index-contexts-n.is in
    subst R (sym c.in_ok-push.ensures.ok) (row_more g c.args.depth contexts rows c.loop-n.all c.loop-n.n c.index-contexts-n.result c.in_ok-column_in.field-0 at c.loop-n.invariant (subst C c.as_slice-context.ensures c.in_ok-column_in.ensures))
