use Rattle.std.proofs.Common.{rules, ◌≡◌, ◌∙◌, ap, ap₂, sym, subst, refl, arith, ℕ, ◌<◌, ◌≤◌, ◌++◌, ◌∷◌, [], List, None, map, length, chars}
use Rattle.terms.specs.Typing.{rows, joined, most_rows}
use Rattle.terms.specs.declared.parts.Decl.{Decl}
use Rattle.terms.proofs.Typings.{length-rows}
use Rattle.java_shapes.specs.Shape.{Shape as Tree, Before as Start, named, called, lambda, nothing, fresh, behind, in_brackets, Shapes, no_shapes}
use Rattle.java_shapes.specs.Readable.{IsContext}
use Rattle.java_resolve.specs.declared.shape.Before.TheFolds.{fold_out-Argument}
use Rattle.java_resolve.specs.declared.readings.Start.TheVariants as start
use Rattle.java_resolve.specs.View.{shape_view, before_view, args_view, before_step, shape_step, argument_step}
use Rattle.java_resolve.specs.Lambdas.{IsLambda, lambda_in, IsLambdaRow, AreLambdas}
use Rattle.java_resolve.specs.Reading.{IsRow, AreSpots, AreRising}
use Rattle.java_resolve.specs.Trees.{row_view, place_view}
use Rattle.java_resolve.proofs.Keys.{keys_rise}
use Rattle.java_resolve.proofs.Pieces.{if_some, if_none}
use Rattle.java_resolve.proofs.TextFacts.{if_map, if_both}
use Rattle.java_resolve.proofs.Sizes.{view_named, view_called, view_lambda, view_nothing, view_fresh, view_behind, view_brackets, size_of_named, size_of_called, size_of_lambda, size_of_behind, size_of_brackets, sizes_of, sizes}
use Rattle.java_resolve.proofs.Spots.{spot_alone, shape_alone, spots_step, spots_end, shapes_of, row_as, named_shape, called_parts, lambda_body, named_before, no_fresh_name, behind_parts, bracket_parts}
use Rattle.java_resolve.proofs.NameLinks.{behind_start, brackets_start, start_as, bare_start, bare_link}
use Rattle.java_resolve.proofs.LambdaRows.{lambda_right, lambda_none, lambdas_step, lambdas_end, lambdas_row, lambdas_full, inner_context}
use Rattle.java_resolve.proofs.readings.+reading.Goals as goal

pub shape_row-named_row-requires : goal.shape_row-named_row-requires
shape_row-named_row-requires t c = (omega (arith, c.decreases, size_of_named c.args.shape.now c.in-Named.before c.in-Named.name c.in-Named.is), tt)

pub shape_row-called_row-requires : goal.shape_row-called_row-requires
shape_row-called_row-requires t c = (rw c.as_slice.ensures (omega (arith, c.decreases, size_of_called c.args.shape.now c.in-Called.before c.in-Called.name c.in-Called.args c.in-Called.field-3 c.in-Called.is)), tt)

pub shape_row-lambda_rows-requires : goal.shape_row-lambda_rows-requires
shape_row-lambda_rows-requires t c = (rw c.get.ensures (omega (arith, c.decreases, size_of_lambda c.args.shape.now c.in-Lambda.interface c.in-Lambda.binders c.in-Lambda.cast c.in-Lambda.body c.in-Lambda.field-4 c.in-Lambda.is)), tt)

pub shape_row-returns-in-Named : goal.shape_row-returns-in-Named
shape_row-returns-in-Named t c = record {
  right = λ set ok h.
      let v = ap shape_view c.in-Named.is ∙ view_named c.in-Named.before c.in-Named.name in
      let s = named (before_view c.in-Named.before) c.in-Named.name in
      row_as c.args.setting.now.env.now (rows c.args.setting.now.ctx) (shape_view c.args.shape.now) s c.named_row.result v (c.named_row.ensures.right set ok (named_shape (chars c.args.setting.now.env.now.binder) (shape_view c.args.shape.now) (before_view c.in-Named.before) c.in-Named.name v h));
}

pub shape_row-returns-in-Called : goal.shape_row-returns-in-Called
shape_row-returns-in-Called t c = record {
  right = λ set ok h.
      let xs = c.as_slice.result.now in
      let b = before_view c.in-Called.before in
      let v = ap shape_view c.in-Called.is ∙ view_called c.in-Called.before c.in-Called.name c.in-Called.args c.in-Called.field-3 ∙ ap (λ z. called b c.in-Called.name (args_view z)) (sym c.as_slice.ensures) in
      let parts = called_parts (chars c.args.setting.now.env.now.binder) (shape_view c.args.shape.now) b c.in-Called.name (args_view xs) v h in
      row_as c.args.setting.now.env.now (rows c.args.setting.now.ctx) (shape_view c.args.shape.now) (called b c.in-Called.name (args_view xs)) c.called_row.result v (c.called_row.ensures.right set ok parts.0 parts.1);
}

pub shape_row-returns-in-Lambda : goal.shape_row-returns-in-Lambda
shape_row-returns-in-Lambda t c = record {
  right = λ set ok h.
      let name = c.as_str.result.now in
      let bs = c.as_slice-in-Lambda.result.now in
      let cast = c.in-Lambda.cast in
      let e = shape_view c.get.result.now in
      let v =
      ap shape_view c.in-Lambda.is ∙ view_lambda c.in-Lambda.interface c.in-Lambda.binders cast c.in-Lambda.body c.in-Lambda.field-4
      ∙ ap (λ z. lambda z c.in-Lambda.binders cast (shape_view c.in-Lambda.body)) (sym c.as_str.ensures)
      ∙ ap (λ z. lambda (chars name) z cast (shape_view c.in-Lambda.body)) (sym c.as_slice-in-Lambda.ensures)
      ∙ ap (λ z. lambda (chars name) bs cast (shape_view z)) (sym c.get.ensures) in
      row_as c.args.setting.now.env.now (rows c.args.setting.now.ctx) (shape_view c.args.shape.now) (lambda (chars name) bs cast e) c.lambda_rows.result v
      (c.lambda_rows.ensures.right name set ok (lambda_body (chars c.args.setting.now.env.now.binder) (shape_view c.args.shape.now) (chars name) bs cast e v h) c.as_str.utf8 c.find.ensures.value);
}

pub named_row-start_of-requires : goal.named_row-start_of-requires
named_row-start_of-requires t c = (omega (arith, c.decreases), tt)

pub named_row-returns-in-Fresh : goal.named_row-returns-in-Fresh
named_row-returns-in-Fresh t c = record {
  right = λ set ok h.
      let p = chars c.args.setting.now.env.now.binder in
      let b = before_view c.args.before.now in
      absurd (no_fresh_name p b c.args.name.now h (start_as c.args.setting.now.env.now (rows c.args.setting.now.ctx) b c.in_ok-start.start start.Fresh c.in-Fresh.is (c.in_ok-start.ensures.right set ok (named_before p b c.args.name.now h).0)));
}

pub named_row-returns-in-Bare : goal.named_row-returns-in-Bare
named_row-returns-in-Bare t c = record {
  right = λ set ok h.
      let g = c.args.setting.now.env.now in
      let ctx = rows c.args.setting.now.ctx in
      let b = before_view c.args.before.now in
      let s = start_as g ctx b c.in_ok-start.start (start.Bare c.in-Bare.link) c.in-Bare.is (c.in_ok-start.ensures.right set ok (named_before (chars g.binder) b c.args.name.now h).0) in
      row_as g ctx (named b c.args.name.now) (named nothing c.args.name.now) c.bare_name.result (ap (λ z. named z c.args.name.now) s.0) (c.bare_name.ensures.right set ok (bare_link g ctx b c.in-Bare.link s));
}

pub named_row-returns-in-Behind : goal.named_row-returns-in-Behind
named_row-returns-in-Behind t c = record {
  right = λ set ok h.
      let g = c.args.setting.now.env.now in
      let ctx = rows c.args.setting.now.ctx in
      let b = before_view c.args.before.now in
      let s = start_as g ctx b c.in_ok-start.start (start.Behind c.in-Behind.link) c.in-Behind.is (c.in_ok-start.ensures.right set ok (named_before (chars g.binder) b c.args.name.now h).0) in
      c.name_behind.ensures.right b set ok s.0 s.1;
}

pub called_row-start_of-requires : goal.called_row-start_of-requires
called_row-start_of-requires t c = (omega (arith, c.decreases), tt)

pub called_row-places_of-requires : goal.called_row-places_of-requires
called_row-places_of-requires t c = (omega (arith, c.decreases), tt)

pub called_row-returns-in-Fresh : goal.called_row-returns-in-Fresh
called_row-returns-in-Fresh t c = record {
  right = λ set ok before args.
      let g = c.args.setting.now.env.now in
      let ctx = rows c.args.setting.now.ctx in
      let b = before_view c.args.before.now in
      let ss = args_view c.args.args.now in
      let s = start_as g ctx b c.in_ok-start.start start.Fresh c.in-Fresh.is (c.in_ok-start.ensures.right set ok before) in
      row_as g ctx (called b c.args.name.now ss) (called fresh c.args.name.now ss) c.new_row.result (ap (λ z. called z c.args.name.now ss) s) (c.new_row.ensures.right ctx ss set ok (c.in_ok-places.ensures.right set ok args));
}

pub called_row-returns-in-Bare : goal.called_row-returns-in-Bare
called_row-returns-in-Bare t c = record {
  right = λ set ok before args.
      let g = c.args.setting.now.env.now in
      let ctx = rows c.args.setting.now.ctx in
      let b = before_view c.args.before.now in
      let ss = args_view c.args.args.now in
      let s = start_as g ctx b c.in_ok-start.start (start.Bare c.in-Bare.link) c.in-Bare.is (c.in_ok-start.ensures.right set ok before) in
      row_as g ctx (called b c.args.name.now ss) (called nothing c.args.name.now ss) c.bare_call.result (ap (λ z. called z c.args.name.now ss) s.0) (c.bare_call.ensures.right ss set ok (bare_link g ctx b c.in-Bare.link s) (c.in_ok-places.ensures.right set ok args));
}

pub called_row-returns-in-Behind : goal.called_row-returns-in-Behind
called_row-returns-in-Behind t c = record {
  right = λ set ok before args.
      let g = c.args.setting.now.env.now in
      let ctx = rows c.args.setting.now.ctx in
      let b = before_view c.args.before.now in
      let s = start_as g ctx b c.in_ok-start.start (start.Behind c.in-Behind.link) c.in-Behind.is (c.in_ok-start.ensures.right set ok before) in
      c.call_behind.ensures.right b (args_view c.args.args.now) set ok s.0 s.1 (c.in_ok-places.ensures.right set ok args);
}

pub start_of-called_row-requires : goal.start_of-called_row-requires
start_of-called_row-requires t c = (rw (c.get.ensures, c.as_slice.ensures) (omega (arith, c.decreases, size_of_behind c.args.before.now c.in-Behind.before c.in-Behind.name c.in-Behind.args c.in-Behind.field-3 c.in-Behind.is)), tt)

pub start_of-place_of-requires : goal.start_of-place_of-requires
start_of-place_of-requires t c = (rw c.get-in-InBrackets.ensures (omega (arith, c.decreases, size_of_brackets c.args.before.now c.in-InBrackets.cast c.in-InBrackets.shape c.in-InBrackets.field-2 c.in-InBrackets.is)), tt)

pub start_of-returns-in_ok-link-in-Nothing : goal.start_of-returns-in_ok-link-in-Nothing
start_of-returns-in_ok-link-in-Nothing t c = record {
  right = λ set ok h. bare_start c.args.setting.now.env.now (rows c.args.setting.now.ctx) (before_view c.args.before.now) c.in_ok-link-in-Nothing.link (ap before_view c.in-Nothing.is ∙ view_nothing) (c.in_ok-link-in-Nothing.ensures.right (rows c.args.setting.now.ctx) set ok);
}

pub start_of-returns-in-Fresh : goal.start_of-returns-in-Fresh
start_of-returns-in-Fresh t c = record { right = λ set ok h. ap before_view c.in-Fresh.is ∙ view_fresh }

pub start_of-returns-in_ok-row-in-Behind : goal.start_of-returns-in_ok-row-in-Behind
start_of-returns-in_ok-row-in-Behind t c = record {
  right = λ set ok h.
      let g = c.args.setting.now.env.now in
      let b = before_view c.get.result.now in
      let ss = args_view c.as_slice.result.now in
      let v =
      ap before_view c.in-Behind.is ∙ view_behind c.in-Behind.before c.in-Behind.name c.in-Behind.args c.in-Behind.field-3
      ∙ ap₂ (λ x y. behind (before_view x) c.in-Behind.name (args_view y)) (sym c.get.ensures) (sym c.as_slice.ensures) in
      let parts = behind_parts (chars g.binder) (before_view c.args.before.now) b c.in-Behind.name ss v h in
      behind_start g (rows c.args.setting.now.ctx) (before_view c.args.before.now) b c.in-Behind.name ss (record { cast = None; row = c.in_ok-row-in-Behind.row }) c.receiver.result v refl (c.in_ok-row-in-Behind.ensures.right set ok parts.0 parts.1) c.receiver.ensures.place c.receiver.ensures.fields c.receiver.ensures.methods;
}

pub start_of-returns-in_ok-place-in-InBrackets : goal.start_of-returns-in_ok-place-in-InBrackets
start_of-returns-in_ok-place-in-InBrackets t c = record {
  right = λ set ok h.
      let g = c.args.setting.now.env.now in
      let s = shape_view c.get-in-InBrackets.result.now in
      let v = ap before_view c.in-InBrackets.is ∙ view_brackets c.in-InBrackets.cast c.in-InBrackets.shape c.in-InBrackets.field-2 ∙ ap (λ z. in_brackets c.in-InBrackets.cast (shape_view z)) (sym c.get-in-InBrackets.ensures) in
      let parts = bracket_parts (chars g.binder) (before_view c.args.before.now) c.in-InBrackets.cast s v h in
      brackets_start g (rows c.args.setting.now.ctx) (before_view c.args.before.now) c.in-InBrackets.cast s c.in_ok-place-in-InBrackets.place c.receiver-in-InBrackets.result v parts.1 c.in_ok-place-in-InBrackets.ensures.cast (c.in_ok-place-in-InBrackets.ensures.right set ok parts.0) c.receiver-in-InBrackets.ensures.place c.receiver-in-InBrackets.ensures.fields c.receiver-in-InBrackets.ensures.methods;
}

pub place_of-shape_row-requires : goal.place_of-shape_row-requires
place_of-shape_row-requires t c = (omega (arith, c.decreases), tt)

pub place_of-returns-clause-right : goal.place_of-returns-clause-right
place_of-returns-clause-right t c = λ set ok h. c.in_ok-row.ensures.right set ok h

pub places_of-argument_place-requires : goal.places_of-argument_place-requires
places_of-argument_place-requires t c = (omega (arith, c.decreases, sizes_of c.args.args.now c.loop-i.i c.index-args-i.result (search rules) c.index-args-i.is), tt)

pub places_of-loop-i-init : goal.places_of-loop-i-init
places_of-loop-i-init t c = λ set ok shapes ps h. subst (λ z. AreSpots c.args.setting.now.env.now (rows c.args.setting.now.ctx) (args_view c.args.args.now) (map place_view z ++ ps)) (sym c.new-places.ensures) h

pub places_of-loop-i-preserved : goal.places_of-loop-i-preserved
places_of-loop-i-preserved t c = λ set ok shapes.
    spots_step c.args.setting.now.env.now (rows c.args.setting.now.ctx) c.args.args.now c.loop-i.i c.index-args-i.result c.loop-i.places c.push.new.self c.in_ok-place.place (search rules) c.index-args-i.is c.in_ok-push.ensures.ok
    (c.in_ok-place.ensures.right set ok (shapes_of (chars c.args.setting.now.env.now.binder) c.args.args.now c.loop-i.i c.index-args-i.result (search rules) c.index-args-i.is shapes))
    (c.loop-i.invariant set ok shapes)

pub places_of-returns : goal.places_of-returns
places_of-returns t c = record { right = λ set ok shapes. spots_end c.args.setting.now.env.now (rows c.args.setting.now.ctx) c.args.args.now c.loop-i.i c.loop-i.places (search rules) (c.loop-i.invariant set ok shapes) }

pub argument_place-place_of-requires : goal.argument_place-place_of-requires
argument_place-place_of-requires t c = let e = fold_out-Argument Start Tree (Shapes → Shapes) before_step shape_step argument_step c.args.arg.now in (omega (arith, c.decreases, ap (λ f. sizes (f no_shapes)) e), tt)

pub argument_place-returns : goal.argument_place-returns
argument_place-returns t c = record {
  right = λ set ok shapes.
      let g = c.args.setting.now.env.now in
      let ctx = rows c.args.setting.now.ctx in
      let y = c.args.arg.now in
      if_both (λ place. place.cast ≡ y.cast) (λ place. IsRow g ctx (shape_view y.shape) (row_view place.row)) (λ place. AreSpots g ctx (args_view (y ∷ [])) (place_view place ∷ [])) c.place_of.result
      (λ place e r. spot_alone g ctx y place e r) c.place_of.ensures.cast (c.place_of.ensures.right set ok (shape_alone (chars g.binder) y shapes));
}

pub lambda_rows-lambda_row-requires : goal.lambda_rows-lambda_row-requires
lambda_rows-lambda_row-requires t c = (omega (arith, c.decreases), omega arith)

pub lambda_rows-loop-i-init : goal.lambda_rows-loop-i-init
lambda_rows-loop-i-init t c = λ name set ok body utf8 is r h.
    subst (λ z. AreLambdas c.args.setting.now.env.now (rows c.args.setting.now.ctx) c.args.numbers.now c.args.binders.now c.args.cast.now (shape_view c.args.body.now) (z ++ r)) (sym c.none-row.ensures.value) h

pub lambda_rows-loop-i-preserved : goal.lambda_rows-loop-i-preserved
lambda_rows-loop-i-preserved t c = λ name set ok body utf8 is.
    let g = c.args.setting.now.env.now in
    lambdas_step g (rows c.args.setting.now.ctx) c.args.numbers.now c.args.binders.now c.args.cast.now (shape_view c.args.body.now) (subst (λ z. AreRising 0 z) (sym (is ∙ set.index name)) (keys_rise 0 name g.decls)) c.loop-i.i (search rules) (row_view c.loop-i.row) (row_view c.in_ok-row.row) (row_view c.in_ok-more.more) c.in_ok-row.ensures.value
    (c.in_ok-more.ensures.right set ok body) (c.loop-i.invariant name set ok body utf8 is)

pub lambda_rows-returns-then-nested-ge-MOST_ROWS : goal.lambda_rows-returns-then-nested-ge-MOST_ROWS
lambda_rows-returns-then-nested-ge-MOST_ROWS t c = record {
  right = λ name set ok body utf8 is.
      let g = c.args.setting.now.env.now in
      let ctx = rows c.args.setting.now.ctx in
      let bs = c.args.binders.now in
      let cast = c.args.cast.now in
      let s = shape_view c.args.body.now in
      let full : most_rows ≤ length ctx = omega (arith, length-rows c.args.setting.now.ctx c.args.setting.now.few_rows, c.if-nested-ge-MOST_ROWS.true) in
      subst (λ z. IsRow g ctx (lambda (chars name) bs cast s) z) (sym c.none-row.ensures.value) (lambdas_full g set.tellable ctx full name utf8 bs cast s);
}

pub lambda_rows-returns : goal.lambda_rows-returns
lambda_rows-returns t c = record {
  right = λ name set ok body utf8 is.
      let g = c.args.setting.now.env.now in
      let ctx = rows c.args.setting.now.ctx in
      let bs = c.args.binders.now in
      let cast = c.args.cast.now in
      let s = shape_view c.args.body.now in
      lambdas_row g set.tellable ctx name utf8 bs cast s (row_view c.loop-i.row)
      (subst (λ z. AreLambdas g ctx z bs cast s (row_view c.loop-i.row)) (is ∙ set.index name) (lambdas_end g ctx c.args.numbers.now bs cast s c.loop-i.i (search rules) (row_view c.loop-i.row) (c.loop-i.invariant name set ok body utf8 is)));
}

pub lambda_row-shape_row-requires : goal.lambda_row-shape_row-requires
lambda_row-shape_row-requires t c = (omega (arith, c.decreases), tt)

pub lambda_row-returns-in-None : goal.lambda_row-returns-in-None
lambda_row-returns-in-None t c = record {
  right = λ set ok body.
      let g = c.args.setting.now.env.now in
      let ctx = rows c.args.setting.now.ctx in
      let n = c.args.number in
      let bs = c.args.binders.now in
      let cast = c.args.cast.now in
      let s = shape_view c.args.body.now in
      subst (λ z. IsLambdaRow g ctx n bs cast s z) (sym c.none.ensures.value)
      (lambda_none g set.tellable.valid ctx n bs (if_none ((d : Decl) (ps : List ℕ) (r : ℕ) → IsLambda g n (length (joined ctx)) bs d ps r → ⊥) c.in_ok-found.found c.in-None.is c.in_ok-found.ensures.none) cast s);
}

pub lambda_row-returns-in_ok-under-in-Some : goal.lambda_row-returns-in_ok-under-in-Some
lambda_row-returns-in_ok-under-in-Some t c = record {
  right = λ set ok body.
      let g = c.args.setting.now.env.now in
      let ctx = rows c.args.setting.now.ctx in
      let n = c.args.number in
      let bs = c.args.binders.now in
      let cast = c.args.cast.now in
      let s = shape_view c.args.body.now in
      let w = c.in-Some.wanted in
      let l = if_some (λ x. IsLambda g n (length (joined ctx)) bs x.decl.now x.row.now x.result) c.in_ok-found.found w c.in-Some.is c.in_ok-found.ensures.some in
      let room : length ctx < most_rows = omega (arith, length-rows c.args.setting.now.ctx c.args.setting.now.few_rows, c.requires) in
      let inner = inner_context g set.tellable ctx ok room n (length (joined ctx)) bs w.decl.now w.row.now w.result l in
      let under = c.in_ok-under-in-Some.ensures.right set (subst (λ z. IsContext z) (sym c.with-ctx.ensures.rows) inner) body in
      let right = lambda_right g ctx n bs w.decl.now w.row.now w.result l room cast s (row_view c.in_ok-under-in-Some.under) (subst (λ z. IsRow g z s (row_view c.in_ok-under-in-Some.under)) c.with-ctx.ensures.rows under) in
      if_map (λ row. row_view row ≡ lambda_in g w.decl.now n w.result cast (row_view c.in_ok-under-in-Some.under)) (λ row. IsLambdaRow g ctx n bs cast s (row_view row)) c.lambda_over.result
      (λ row e. subst (λ z. IsLambdaRow g ctx n bs cast s z) (sym e) right) c.lambda_over.ensures.value;
}
