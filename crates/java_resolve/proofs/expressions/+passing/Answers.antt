use Rattle.std.proofs.Common.{rules, ◌∙◌, ◌++◌, ◌∷◌, [], true, false, ap, subst, refl, arith, codes}
use Rattle.std.specs.List.{list_all}
use Rattle.std.specs.Char.{is_ascii}
use Rattle.java_shapes.specs.Shape.{Shape as Tree, Before as Start, Shapes, no_shapes}
use Rattle.java_resolve.specs.declared.shape.Before.TheFolds.{fold_out-Argument}
use Rattle.java_resolve.specs.View.{shape_view, before_view, args_view, before_step, shape_step, argument_step}
use Rattle.java_resolve.specs.Pieces.{sign, cut, cast_pieces, header_pieces, call_pieces, shape_pieces, before_pieces, args_pieces, separator}
use Rattle.java_resolve.specs.declared.passing.Passing.{Passing}
use Rattle.java_resolve.specs.Known.{Passes}
use Rattle.java_resolve.proofs.Adding.{knows_kept}
use Rattle.java_resolve.proofs.Pieces.{over_none, over_pieces, separator_ascii, sign_by}
use Rattle.java_resolve.proofs.Going.{goes_on, goes_ok, goes_true, goes_false, goes_both, goes_first, goes_call, goes_by, goes_opened, goes_enclosed}
use Rattle.java_resolve.proofs.Sizes.{size_of_named, size_of_called, size_of_lambda, size_of_behind, size_of_brackets, sizes_of, sizes}
use Rattle.java_resolve.proofs.Forms.{pieces_named, pieces_called_by, pieces_lambda_by, pieces_nothing, pieces_fresh, pieces_behind_by, pieces_brackets_by, args_on, args_stop, args_over, arg_alone, cut_back, begins_by}
use Rattle.java_resolve.proofs.expressions.+passing.Goals as goal

pub pass_shape-pass_named-requires : goal.pass_shape-pass_named-requires
pass_shape-pass_named-requires t c = (omega (arith, c.decreases, size_of_named c.args.shape.now c.in-Named.before c.in-Named.name c.in-Named.is), tt)

pub pass_shape-pass_called-requires : goal.pass_shape-pass_called-requires
pass_shape-pass_called-requires t c = (rw c.as_slice.ensures (omega (arith, c.decreases, size_of_called c.args.shape.now c.in-Called.before c.in-Called.name c.in-Called.args c.in-Called.field-3 c.in-Called.is)), tt)

pub pass_shape-pass_lambda-requires : goal.pass_shape-pass_lambda-requires
pass_shape-pass_lambda-requires t c = (rw c.get.ensures (omega (arith, c.decreases, size_of_lambda c.args.shape.now c.in-Lambda.interface c.in-Lambda.binders c.in-Lambda.cast c.in-Lambda.body c.in-Lambda.field-4 c.in-Lambda.is)), tt)

pub pass_shape-returns-in-Named : goal.pass_shape-returns-in-Named
pass_shape-returns-in-Named t c = λ d bound k. goes_by d (before_pieces bound (before_view c.in-Named.before) ++ cut bound [] c.in-Named.name) (shape_pieces bound (shape_view c.args.shape.now)) c.args.passing.now c.pass_named.new.passing c.pass_named.result (pieces_named bound c.args.shape.now c.in-Named.before c.in-Named.name c.in-Named.is) (c.pass_named.ensures d bound k)

pub pass_shape-returns-in-Called : goal.pass_shape-returns-in-Called
pass_shape-returns-in-Called t c = λ d bound k. goes_by d ((before_pieces bound (before_view c.in-Called.before) ++ cut bound [] c.in-Called.name) ++ call_pieces bound (args_view c.as_slice.result.now)) (shape_pieces bound (shape_view c.args.shape.now)) c.args.passing.now c.pass_called.new.passing c.pass_called.result (pieces_called_by bound c.args.shape.now c.in-Called.before c.in-Called.name c.in-Called.args c.as_slice.result.now c.in-Called.field-3 c.as_slice.ensures c.in-Called.is) (c.pass_called.ensures d bound k)

pub pass_shape-returns-in-Lambda : goal.pass_shape-returns-in-Lambda
pass_shape-returns-in-Lambda t c = λ d bound k.
    let bs = c.as_slice-in-Lambda.result.now in
    goes_by d (header_pieces (bound ++ bs) c.in-Lambda.interface bs ++ (cast_pieces (bound ++ bs) c.in-Lambda.cast ++ shape_pieces (bound ++ bs) (shape_view c.get.result.now))) (shape_pieces bound (shape_view c.args.shape.now)) c.args.passing.now c.pass_lambda.new.passing c.pass_lambda.result (pieces_lambda_by bound c.args.shape.now c.in-Lambda.interface c.in-Lambda.binders bs c.in-Lambda.cast c.in-Lambda.body c.get.result.now c.in-Lambda.field-4 c.as_slice-in-Lambda.ensures c.get.ensures c.in-Lambda.is) (c.pass_lambda.ensures d bound k)

pub pass_named-pass_before-requires : goal.pass_named-pass_before-requires
pass_named-pass_before-requires t c = (omega (arith, c.decreases), tt)

pub pass_named-returns-then-not-is_known : goal.pass_named-returns-then-not-is_known
pass_named-returns-then-not-is_known t c = λ d bound k. goes_first d (before_pieces bound (before_view c.args.before.now)) (cut bound [] c.args.name.now) c.args.passing.now c.pass_before.new.passing (goes_false d (before_pieces bound (before_view c.args.before.now)) c.args.passing.now c.pass_before.new.passing c.in_ok-is_known.is_known c.if-not-is_known.true (c.in_ok-is_known.ensures d bound k))

pub pass_named-returns : goal.pass_named-returns
pass_named-returns t c = λ d bound k.
    let a = c.args.passing.now in
    let b = c.pass_before.new.passing in
    let end : Passing = record { set = b.set; at = c.pass_name.new.at } in
    let ps = before_pieces bound (before_view c.args.before.now) in
    let qs = cut bound [] c.args.name.now in
    let h = c.in_ok-is_known.ensures d bound k in
    goes_call d ps qs a b end c.pass_name.result (goes_true d ps a b c.in_ok-is_known.is_known c.if-not-is_known.false h) (goes_ok d qs b end c.pass_name.result refl (c.pass_name.ensures d bound (knows_kept a.set b.set d bound h.1 k)))

pub pass_called-pass_named-requires : goal.pass_called-pass_named-requires
pass_called-pass_named-requires t c = (omega (arith, c.decreases), tt)

pub pass_called-pass_call-requires : goal.pass_called-pass_call-requires
pass_called-pass_call-requires t c = (omega (arith, c.decreases), tt)

pub pass_called-returns-then-not-is_known : goal.pass_called-returns-then-not-is_known
pass_called-returns-then-not-is_known t c = λ d bound k. goes_first d (before_pieces bound (before_view c.args.before.now) ++ cut bound [] c.args.name.now) (call_pieces bound (args_view c.args.args.now)) c.args.passing.now c.pass_named.new.passing (goes_false d (before_pieces bound (before_view c.args.before.now) ++ cut bound [] c.args.name.now) c.args.passing.now c.pass_named.new.passing c.in_ok-is_known.is_known c.if-not-is_known.true (c.in_ok-is_known.ensures d bound k))

pub pass_called-returns : goal.pass_called-returns
pass_called-returns t c = λ d bound k.
    let a = c.args.passing.now in
    let b = c.pass_named.new.passing in
    let ps = before_pieces bound (before_view c.args.before.now) ++ cut bound [] c.args.name.now in
    let qs = call_pieces bound (args_view c.args.args.now) in
    let h = c.in_ok-is_known.ensures d bound k in
    goes_call d ps qs a b c.pass_call.new.passing c.pass_call.result (goes_true d ps a b c.in_ok-is_known.is_known c.if-not-is_known.false h) (c.pass_call.ensures d bound (knows_kept a.set b.set d bound h.1 k))

pub pass_call-pass_args-requires : goal.pass_call-pass_args-requires
pass_call-pass_args-requires t c = (omega (arith, c.decreases), tt)

pub pass_call-returns-then-not-are_known : goal.pass_call-returns-then-not-are_known
pass_call-returns-then-not-are_known t c = λ d bound k.
    let a = c.args.passing.now in
    let one : Passing = record { set = a.set; at = c.pass_sign.new.at } in
    let ps = args_pieces bound true (args_view c.args.args.now) in
    goes_opened d (40 ∷ []) ps (sign (41 ∷ []) ∷ []) a one c.pass_args.new.passing (goes_on d (sign (40 ∷ []) ∷ []) a one true refl (c.in_ok-pass_sign.ensures d)) (goes_false d ps one c.pass_args.new.passing c.in_ok-are_known.are_known c.if-not-are_known.true (c.in_ok-are_known.ensures d bound k))

pub pass_call-returns : goal.pass_call-returns
pass_call-returns t c = λ d bound k.
    let a = c.args.passing.now in
    let one : Passing = record { set = a.set; at = c.pass_sign.new.at } in
    let two = c.pass_args.new.passing in
    let end : Passing = record { set = two.set; at = c.pass_sign-2.new.at } in
    let ps = args_pieces bound true (args_view c.args.args.now) in
    goes_enclosed d (40 ∷ []) (41 ∷ []) ps a one two end (goes_on d (sign (40 ∷ []) ∷ []) a one true refl (c.in_ok-pass_sign.ensures d)) (goes_true d ps one two c.in_ok-are_known.are_known c.if-not-are_known.false (c.in_ok-are_known.ensures d bound k)) (goes_on d (sign (41 ∷ []) ∷ []) two end true refl (c.in_ok-pass_sign-2.ensures d))

pub pass_before-pass_behind-requires : goal.pass_before-pass_behind-requires
pass_before-pass_behind-requires t c = (rw (c.get.ensures, c.as_slice.ensures) (omega (arith, c.decreases, size_of_behind c.args.before.now c.in-Behind.before c.in-Behind.name c.in-Behind.args c.in-Behind.field-3 c.in-Behind.is)), tt)

pub pass_before-pass_bracketed-requires : goal.pass_before-pass_bracketed-requires
pass_before-pass_bracketed-requires t c = (rw c.get-in-InBrackets.ensures (omega (arith, c.decreases, size_of_brackets c.args.before.now c.in-InBrackets.cast c.in-InBrackets.receiver c.in-InBrackets.field-2 c.in-InBrackets.is)), tt)

pub pass_before-returns-in-Nothing : goal.pass_before-returns-in-Nothing
pass_before-returns-in-Nothing t c = λ d bound k.
    let a = c.args.passing.now in
    (over_pieces d [] (before_pieces bound (before_view c.args.before.now)) a.at a.at true (pieces_nothing bound c.args.before.now c.in-Nothing.is) (over_none d a.at), refl)

pub pass_before-returns-in-Fresh : goal.pass_before-returns-in-Fresh
pass_before-returns-in-Fresh t c = λ d bound k.
    let a = c.args.passing.now in
    let end : Passing = record { set = a.set; at = c.pass_fresh.new.at } in
    let ps = sign (codes "new ") ∷ [] in
    goes_by d ps (before_pieces bound (before_view c.args.before.now)) a end c.pass_fresh.result (pieces_fresh bound c.args.before.now c.in-Fresh.is) (goes_ok d ps a end c.pass_fresh.result refl (c.pass_fresh.ensures d))

pub pass_before-returns-in-Behind : goal.pass_before-returns-in-Behind
pass_before-returns-in-Behind t c = λ d bound k. goes_by d (((before_pieces bound (before_view c.get.result.now) ++ cut bound [] c.in-Behind.name) ++ call_pieces bound (args_view c.as_slice.result.now)) ++ sign (codes ".") ∷ []) (before_pieces bound (before_view c.args.before.now)) c.args.passing.now c.pass_behind.new.passing c.pass_behind.result (pieces_behind_by bound c.args.before.now c.in-Behind.before c.get.result.now c.in-Behind.name c.in-Behind.args c.as_slice.result.now c.in-Behind.field-3 c.get.ensures c.as_slice.ensures c.in-Behind.is) (c.pass_behind.ensures d bound k)

pub pass_before-returns-in-InBrackets : goal.pass_before-returns-in-InBrackets
pass_before-returns-in-InBrackets t c = λ d bound k. goes_by d (sign (codes "(") ∷ ((cast_pieces bound c.in-InBrackets.cast ++ shape_pieces bound (shape_view c.get-in-InBrackets.result.now)) ++ sign (codes ").") ∷ [])) (before_pieces bound (before_view c.args.before.now)) c.args.passing.now c.pass_bracketed.new.passing c.pass_bracketed.result (pieces_brackets_by bound c.args.before.now c.in-InBrackets.cast c.in-InBrackets.receiver c.get-in-InBrackets.result.now c.in-InBrackets.field-2 c.get-in-InBrackets.ensures c.in-InBrackets.is) (c.pass_bracketed.ensures d bound k)

pub pass_behind-pass_called-requires : goal.pass_behind-pass_called-requires
pass_behind-pass_called-requires t c = (omega (arith, c.decreases), tt)

pub pass_behind-returns-then-not-is_known : goal.pass_behind-returns-then-not-is_known
pass_behind-returns-then-not-is_known t c = λ d bound k. goes_first d ((before_pieces bound (before_view c.args.before.now) ++ cut bound [] c.args.name.now) ++ call_pieces bound (args_view c.args.args.now)) (sign (codes ".") ∷ []) c.args.passing.now c.pass_called.new.passing (goes_false d ((before_pieces bound (before_view c.args.before.now) ++ cut bound [] c.args.name.now) ++ call_pieces bound (args_view c.args.args.now)) c.args.passing.now c.pass_called.new.passing c.in_ok-is_known.is_known c.if-not-is_known.true (c.in_ok-is_known.ensures d bound k))

pub pass_behind-returns : goal.pass_behind-returns
pass_behind-returns t c = λ d bound k.
    let a = c.args.passing.now in
    let b = c.pass_called.new.passing in
    let end : Passing = record { set = b.set; at = c.pass_sign.new.at } in
    let ps = (before_pieces bound (before_view c.args.before.now) ++ cut bound [] c.args.name.now) ++ call_pieces bound (args_view c.args.args.now) in
    let qs = sign (codes ".") ∷ [] in
    goes_both d ps qs a b end true (goes_true d ps a b c.in_ok-is_known.is_known c.if-not-is_known.false (c.in_ok-is_known.ensures d bound k)) (goes_on d qs b end true refl (c.in_ok-pass_sign.ensures d))

pub pass_bracketed-pass_with_cast-requires : goal.pass_bracketed-pass_with_cast-requires
pass_bracketed-pass_with_cast-requires t c = (omega (arith, c.decreases), tt)

pub pass_bracketed-returns-then-not-is_known : goal.pass_bracketed-returns-then-not-is_known
pass_bracketed-returns-then-not-is_known t c = λ d bound k.
    let a = c.args.passing.now in
    let one : Passing = record { set = a.set; at = c.pass_sign.new.at } in
    let ps = cast_pieces bound c.args.cast.now ++ shape_pieces bound (shape_view c.args.receiver.now) in
    goes_opened d (40 ∷ []) ps (sign (41 ∷ 46 ∷ []) ∷ []) a one c.pass_with_cast.new.passing (goes_on d (sign (40 ∷ []) ∷ []) a one true refl (c.in_ok-pass_sign.ensures d)) (goes_false d ps one c.pass_with_cast.new.passing c.in_ok-is_known.is_known c.if-not-is_known.true (c.in_ok-is_known.ensures d bound k))

pub pass_bracketed-returns : goal.pass_bracketed-returns
pass_bracketed-returns t c = λ d bound k.
    let a = c.args.passing.now in
    let one : Passing = record { set = a.set; at = c.pass_sign.new.at } in
    let two = c.pass_with_cast.new.passing in
    let end : Passing = record { set = two.set; at = c.pass_sign-2.new.at } in
    let ps = cast_pieces bound c.args.cast.now ++ shape_pieces bound (shape_view c.args.receiver.now) in
    goes_enclosed d (40 ∷ []) (41 ∷ 46 ∷ []) ps a one two end (goes_on d (sign (40 ∷ []) ∷ []) a one true refl (c.in_ok-pass_sign.ensures d)) (goes_true d ps one two c.in_ok-is_known.is_known c.if-not-is_known.false (c.in_ok-is_known.ensures d bound k)) (goes_on d (sign (41 ∷ 46 ∷ []) ∷ []) two end true refl (c.in_ok-pass_sign-2.ensures d))

pub pass_with_cast-pass_shape-requires : goal.pass_with_cast-pass_shape-requires
pass_with_cast-pass_shape-requires t c = (omega (arith, c.decreases), tt)

pub pass_with_cast-returns-then-not-is_known : goal.pass_with_cast-returns-then-not-is_known
pass_with_cast-returns-then-not-is_known t c = λ d bound k.
    let a = c.args.passing.now in
    let one : Passing = record { set = a.set; at = c.pass_cast.new.at } in
    let ps = cast_pieces bound c.args.cast.now in
    let qs = shape_pieces bound (shape_view c.args.shape.now) in
    let h = goes_on d ps a one c.in_ok-is_known.is_known refl (c.in_ok-is_known.ensures d bound k) in
    goes_first d ps qs a one (goes_false d ps a one c.in_ok-is_known.is_known c.if-not-is_known.true h)

pub pass_with_cast-returns : goal.pass_with_cast-returns
pass_with_cast-returns t c = λ d bound k.
    let a = c.args.passing.now in
    let one : Passing = record { set = a.set; at = c.pass_cast.new.at } in
    let ps = cast_pieces bound c.args.cast.now in
    let qs = shape_pieces bound (shape_view c.args.shape.now) in
    let h = goes_on d ps a one c.in_ok-is_known.is_known refl (c.in_ok-is_known.ensures d bound k) in
    goes_call d ps qs a one c.pass_shape.new.passing c.pass_shape.result (goes_true d ps a one c.in_ok-is_known.is_known c.if-not-is_known.false h) (c.pass_shape.ensures d bound k)

pub pass_args-pass_arg-requires : goal.pass_args-pass_arg-requires
pass_args-pass_arg-requires t c = (omega (arith, c.decreases, sizes_of c.args.args.now c.loop-i.i c.index-args-i.result (search rules) c.index-args-i.is), tt)

pub pass_args-loop-i-preserved : goal.pass_args-loop-i-preserved
pass_args-loop-i-preserved t c = record {
  goes = λ d bound k end r h.
      let one = c.in_ok-is_known.ensures d bound (c.loop-i.invariant.knows d bound k) in
      c.loop-i.invariant.goes d bound k end r
      (args_on d bound c.args.args.now c.loop-i.i c.index-args-i.result c.loop-i.passing.at c.pass_arg.new.passing.at end.at c.in_ok-is_known.is_known r (search rules) c.index-args-i.is c.if-not-is_known.false one.0 h.0, h.1 ∙ one.1);
  knows = λ d bound k.
      let known = c.loop-i.invariant.knows d bound k in
      knows_kept c.loop-i.passing.set c.pass_arg.new.passing.set d bound (c.in_ok-is_known.ensures d bound known).1 known;
}

pub pass_args-returns-then-not-is_known : goal.pass_args-returns-then-not-is_known
pass_args-returns-then-not-is_known t c = λ d bound k.
    let one = c.in_ok-is_known.ensures d bound (c.loop-i.invariant.knows d bound k) in
    c.loop-i.invariant.goes d bound k c.pass_arg.new.passing false
    (args_stop d bound c.args.args.now c.loop-i.i c.index-args-i.result c.loop-i.passing.at c.pass_arg.new.passing.at c.in_ok-is_known.is_known (search rules) c.index-args-i.is c.if-not-is_known.true one.0, one.1)

pub pass_args-returns : goal.pass_args-returns
pass_args-returns t c = λ d bound k. c.loop-i.invariant.goes d bound k c.loop-i.passing true (args_over d bound c.args.args.now c.loop-i.i c.loop-i.passing.at (search rules), refl)

pub pass_arg-pass_sign-requires : goal.pass_arg-pass_sign-requires
pass_arg-pass_sign-requires t c = ap (list_all is_ascii) c.separator.ensures ∙ separator_ascii c.args.is_first

pub pass_arg-pass_with_cast-requires : goal.pass_arg-pass_with_cast-requires
pass_arg-pass_with_cast-requires t c = let e = fold_out-Argument Start Tree (Shapes → Shapes) before_step shape_step argument_step c.args.arg.now in (omega (arith, c.decreases, ap (λ f. sizes (f no_shapes)) e), tt)

pub pass_arg-returns : goal.pass_arg-returns
pass_arg-returns t c = λ d bound k.
    let a = c.args.passing.now in
    let one : Passing = record { set = a.set; at = c.pass_sign.new.at } in
    let ps = sign (separator c.args.is_first) ∷ [] in
    let e = fold_out-Argument Start Tree (Shapes → Shapes) before_step shape_step argument_step c.args.arg.now in
    goes_by d _ (args_pieces bound c.args.is_first (args_view (c.args.arg.now ∷ []))) a c.pass_with_cast.new.passing c.pass_with_cast.result (arg_alone bound c.args.is_first c.args.arg.now _ _ e)
    (goes_call d ps _ a one c.pass_with_cast.new.passing c.pass_with_cast.result
    (goes_on d ps a one true refl (sign_by d c.separator.result.now (separator c.args.is_first) a.at one.at c.separator.ensures (c.in_ok-pass_sign.ensures d)))
    (c.pass_with_cast.ensures d bound k))

pub pass_lambda-pass_within-requires : goal.pass_lambda-pass_within-requires
pass_lambda-pass_within-requires t c = (omega (arith, c.decreases), tt)

pub pass_lambda-returns : goal.pass_lambda-returns
pass_lambda-returns t c = λ d bound k.
    let within = bound ++ c.args.binders.now in
    let ps = header_pieces within c.args.interface.now c.args.binders.now ++ (cast_pieces within c.args.cast.now ++ shape_pieces within (shape_view c.args.body.now)) in
    let h = c.in_ok-are_known.ensures d within (c.in_ok-bind.ensures.known d bound k) in (
      subst (λ n. Passes d ps n c.pass_within.new.passing.at c.in_ok-are_known.are_known) c.in_ok-bind.ensures.place h.0,
      cut_back c.args.passing.now.set.keys c.pass_within.new.passing.set.keys c.truncate.new.self.keys c.len-outer.result c.len-outer.ensures.len (begins_by c.args.passing.now.set.keys c.bind.new.passing.set.keys c.pass_within.new.passing.set.keys h.1 c.in_ok-bind.ensures.kept) c.truncate.ensures.keys,
    )

pub pass_within-pass_with_cast-requires : goal.pass_within-pass_with_cast-requires
pass_within-pass_with_cast-requires t c = (omega (arith, c.decreases), tt)

pub pass_within-returns-then-not-is_known : goal.pass_within-returns-then-not-is_known
pass_within-returns-then-not-is_known t c = λ d bound k.
    let a = c.args.passing.now in
    let one : Passing = record { set = a.set; at = c.pass_header.new.at } in
    let ps = header_pieces bound c.args.interface.now c.args.binders.now in
    let qs = cast_pieces bound c.args.cast.now ++ shape_pieces bound (shape_view c.args.body.now) in
    let h = goes_on d ps a one c.in_ok-is_known.is_known refl (c.in_ok-is_known.ensures d bound k) in
    goes_first d ps qs a one (goes_false d ps a one c.in_ok-is_known.is_known c.if-not-is_known.true h)

pub pass_within-returns : goal.pass_within-returns
pass_within-returns t c = λ d bound k.
    let a = c.args.passing.now in
    let one : Passing = record { set = a.set; at = c.pass_header.new.at } in
    let ps = header_pieces bound c.args.interface.now c.args.binders.now in
    let qs = cast_pieces bound c.args.cast.now ++ shape_pieces bound (shape_view c.args.body.now) in
    let h = goes_on d ps a one c.in_ok-is_known.is_known refl (c.in_ok-is_known.ensures d bound k) in
    goes_call d ps qs a one c.pass_with_cast.new.passing c.pass_with_cast.result (goes_true d ps a one c.in_ok-is_known.is_known c.if-not-is_known.false h) (c.pass_with_cast.ensures d bound k)
