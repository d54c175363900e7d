use Rattle.std.proofs.Common.{sym, subst, IfOk}
use Rattle.terms.specs.Faults.{IsValid}
use Rattle.java_shapes.specs.Readable.{HasShortRows, IsContext}
use Rattle.java_resolve.specs.Index.{IsIndex}
use Rattle.java_resolve.specs.Reading.{IsRow, IsSet}
use Rattle.java_resolve.specs.Trees.{row_view}
use Rattle.java_resolve.specs.View.{shape_view}
use Rattle.java_resolve.proofs.ReadingLaw.{no_rows}
use Rattle.java_resolve.proofs.Forms.{ok_of}
use Rattle.java_resolve.proofs.resolution.row_of.Goals as goal

pub returns-clause-tellable : goal.returns-clause-tellable
returns-clause-tellable c = ok_of c.shape_row.result (record {
  valid = subst (λ z. IsValid z) c.parts-parts.ensures.value c.parts-parts.ensures.valid;
  readable = c.requires;
  short = subst (λ z. HasShortRows z) c.parts-parts.ensures.value c.short_rows.ensures;
})

pub returns-clause-right : goal.returns-clause-right
returns-clause-right c = λ h.
    let g = c.args.env.now in
    let is = c.parts-parts.ensures.value in
    let set : IsSet g c.in_ok-index.index = record {
      tellable = record { valid = subst (λ z. IsValid z) is c.parts-parts.ensures.valid; readable = c.requires; short = subst (λ z. HasShortRows z) is c.short_rows.ensures };
      index = subst (λ z. IsIndex z c.in_ok-index.index) is c.in_ok-index.ensures.right;
    } in
    subst (λ z. IfOk c.shape_row.result (λ row. IsRow g z (shape_view c.args.shape.now) (row_view row))) c.empty-ctx.ensures.rows
    (c.shape_row.ensures.right set (subst (λ z. IsContext z) (sym c.empty-ctx.ensures.rows) no_rows) h)
