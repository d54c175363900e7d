use Rattle.std.proofs.Common.{rules, ◌≡◌, ◌∙◌, sym, ap, subst, refl, ◌+◌, ◌*◌, ◌++◌, ◌∷◌, [], drop, slice_get, Some, None, arith, append_assoc, append-nil}
use Rattle.terms.specs.Expr.{no_args, plain, lam}
use Rattle.terms.specs.View.{expr, args_view}
use Rattle.terms.specs.Typing.{rows}
use Rattle.terms.specs.Weights.{binders_weight, args_weight, step_in}
use Rattle.terms.proofs.Typings.{length-rows}
use Rattle.terms.proofs.Sizes.{size-Head, size-Plain, size-Lam, sizes-of}
use Rattle.checker.specs.declared.row.Row.{Row}
use Rattle.checker.specs.Rows.{rows_of, args_rows}
use Rattle.certificates.specs.Readable.{IsReadable, AreReadable, IsRated}
use Rattle.certificates.proofs.Parting.{head-there, head-args, head-small, head-rated, wanted-there, split-at, weight-at, rows-at, weight-end, rows-end, head-final, plain-part, plain-weight, plain-rows, small, plain-apart, lam-part, lam-room, lam-weight, lam-rows, lam-binders, lam-apart, head-part, arg-plain, arg-lam}
use Rattle.certificates.proofs.rows.+rows.Goals as goal

pub push_plain-push_rows-requires : goal.push_plain-push_rows-requires
push_plain-push_rows-requires t c = (omega (arith, c.decreases), (c.requires.valid, (c.requires.few_rows, plain-part c.args.env.now (rows c.args.ctx.now) (expr c.args.term.now) c.args.wanted.now c.in-Plain.to c.in-Plain.is c.requires.parts)))

pub push_plain-overflow_add-result : goal.push_plain-overflow_add-result
push_plain-overflow_add-result t c =
    let e = plain-weight c.args.env.now (rows c.args.ctx.now) (expr c.args.term.now) c.args.wanted.now c.in-Plain.to c.in_ok-row-in-Plain.row c.step.result c.in-Plain.is c.in_ok-row-in-Plain.ensures.rated c.step.ensures.value in
    let low = small c.args.env.now (rows c.args.ctx.now) (plain (expr c.args.term.now) no_args) (c.args.wanted.now ∷ []) (c.in_ok-row-in-Plain.row.weight + c.step.result) c.requires.parts e in
    omega (arith, low)

pub push_plain-unreachable-requires : goal.push_plain-unreachable-requires
push_plain-unreachable-requires t c = plain-apart c.args.env.now (rows c.args.ctx.now) (expr c.args.term.now) c.args.wanted.now _ _ c.in-Fun.is c.requires.parts

pub push_plain-returns-clause-weight : goal.push_plain-returns-clause-weight
push_plain-returns-clause-weight t c = plain-weight c.args.env.now (rows c.args.ctx.now) (expr c.args.term.now) c.args.wanted.now c.in-Plain.to c.in_ok-row-in-Plain.row c.step.result c.in-Plain.is c.in_ok-row-in-Plain.ensures.rated c.step.ensures.value

pub push_plain-returns-clause-rows : goal.push_plain-returns-clause-rows
push_plain-returns-clause-rows t c = c.in_ok-row-in-Plain.ensures.rows ∙ ap (λ l. c.args.list.now ++ l) (plain-rows c.args.env.now (rows c.args.ctx.now) (expr c.args.term.now) c.args.wanted.now c.in-Plain.to c.in-Plain.is)

pub push_lambda-with-requires : goal.push_lambda-with-requires
push_lambda-with-requires t c =
    let room = lam-room c.args.env.now (rows c.args.ctx.now) (expr c.args.body.now) c.args.wanted.now c.in-Fun.params c.in-Fun.to c.in-Fun.is c.requires.parts in
    let long = length-rows c.args.ctx.now c.requires.few_rows in
    omega (arith, room, long)

pub push_lambda-push_rows-requires : goal.push_lambda-push_rows-requires
push_lambda-push_rows-requires t c =
    let g = c.args.env.now in
    let ctx = rows c.args.ctx.now in
    let room = lam-room g ctx (expr c.args.body.now) c.args.wanted.now c.in-Fun.params c.in-Fun.to c.in-Fun.is c.requires.parts in
    let long = length-rows c.args.ctx.now c.requires.few_rows in
    let used = c.with.ensures.used in
    let inner : rows c.with.result ≡ ctx ++ c.in-Fun.params ∷ [] = c.with.ensures.rows ∙ ap (λ p. ctx ++ p ∷ []) c.as_slice.ensures in
    (omega (arith, c.decreases), (c.requires.valid, (omega (arith, room, long, used), subst (λ r. IsReadable g r (expr c.args.body.now)) (sym inner) (lam-part g c.requires.valid ctx (expr c.args.body.now) c.args.wanted.now c.in-Fun.params c.in-Fun.to c.in-Fun.is c.requires.parts))))

pub push_lambda-overflow_cast-binders : goal.push_lambda-overflow_cast-binders
push_lambda-overflow_cast-binders t c =
    let few = lam-binders c.args.env.now (rows c.args.ctx.now) (expr c.args.body.now) c.args.wanted.now c.in-Fun.params c.in-Fun.to c.in-Fun.is c.requires.parts in
    let many = c.binders_weight-binders.ensures.value ∙ ap (binders_weight c.args.env.now) c.len.ensures in
    omega (arith, few, many)

pub push_lambda-overflow_add-result : goal.push_lambda-overflow_add-result
push_lambda-overflow_add-result t c =
    let g = c.args.env.now in
    let ctx = rows c.args.ctx.now in
    let inner : rows c.with.result ≡ ctx ++ c.in-Fun.params ∷ [] = c.with.ensures.rows ∙ ap (λ p. ctx ++ p ∷ []) c.as_slice.ensures in
    let rated : IsRated g (ctx ++ c.in-Fun.params ∷ []) (expr c.args.body.now) c.in_ok-row-in-Fun.row = subst (λ r. IsRated g r (expr c.args.body.now) c.in_ok-row-in-Fun.row) inner c.in_ok-row-in-Fun.ensures.rated in
    let many = c.binders_weight-binders.ensures.value ∙ ap (binders_weight g) c.len.ensures in
    let e = lam-weight g ctx (expr c.args.body.now) c.args.wanted.now c.in-Fun.params c.in-Fun.to c.in_ok-row-in-Fun.row c.binders_weight-binders.result (step_in g (Some c.in_ok-row-in-Fun.row.result) c.in-Fun.to) c.in-Fun.is rated many refl in
    let low = small g ctx (lam (expr c.args.body.now) no_args) (c.args.wanted.now ∷ []) _ c.requires.parts e in
    omega (arith, low)

pub push_lambda-overflow_add-result-in-Fun : goal.push_lambda-overflow_add-result-in-Fun
push_lambda-overflow_add-result-in-Fun t c =
    let g = c.args.env.now in
    let ctx = rows c.args.ctx.now in
    let inner : rows c.with.result ≡ ctx ++ c.in-Fun.params ∷ [] = c.with.ensures.rows ∙ ap (λ p. ctx ++ p ∷ []) c.as_slice.ensures in
    let rated : IsRated g (ctx ++ c.in-Fun.params ∷ []) (expr c.args.body.now) c.in_ok-row-in-Fun.row = subst (λ r. IsRated g r (expr c.args.body.now) c.in_ok-row-in-Fun.row) inner c.in_ok-row-in-Fun.ensures.rated in
    let many = c.binders_weight-binders.ensures.value ∙ ap (binders_weight g) c.len.ensures in
    let e = lam-weight g ctx (expr c.args.body.now) c.args.wanted.now c.in-Fun.params c.in-Fun.to c.in_ok-row-in-Fun.row c.binders_weight-binders.result c.step.result c.in-Fun.is rated many c.step.ensures.value in
    let low = small g ctx (lam (expr c.args.body.now) no_args) (c.args.wanted.now ∷ []) _ c.requires.parts e in
    omega (arith, low)

pub push_lambda-unreachable-requires : goal.push_lambda-unreachable-requires
push_lambda-unreachable-requires t c = lam-apart c.args.env.now (rows c.args.ctx.now) (expr c.args.body.now) c.args.wanted.now _ c.in-Plain.is c.requires.parts

pub push_lambda-returns-clause-weight : goal.push_lambda-returns-clause-weight
push_lambda-returns-clause-weight t c =
    let g = c.args.env.now in
    let ctx = rows c.args.ctx.now in
    let inner : rows c.with.result ≡ ctx ++ c.in-Fun.params ∷ [] = c.with.ensures.rows ∙ ap (λ p. ctx ++ p ∷ []) c.as_slice.ensures in
    let rated : IsRated g (ctx ++ c.in-Fun.params ∷ []) (expr c.args.body.now) c.in_ok-row-in-Fun.row = subst (λ r. IsRated g r (expr c.args.body.now) c.in_ok-row-in-Fun.row) inner c.in_ok-row-in-Fun.ensures.rated in
    let many = c.binders_weight-binders.ensures.value ∙ ap (binders_weight g) c.len.ensures in
    lam-weight g ctx (expr c.args.body.now) c.args.wanted.now c.in-Fun.params c.in-Fun.to c.in_ok-row-in-Fun.row c.binders_weight-binders.result c.step.result c.in-Fun.is rated many c.step.ensures.value

pub push_lambda-returns-clause-rows : goal.push_lambda-returns-clause-rows
push_lambda-returns-clause-rows t c =
    let g = c.args.env.now in
    let ctx = rows c.args.ctx.now in
    let inner : rows c.with.result ≡ ctx ++ c.in-Fun.params ∷ [] = c.with.ensures.rows ∙ ap (λ p. ctx ++ p ∷ []) c.as_slice.ensures in
    c.in_ok-row-in-Fun.ensures.rows ∙ ap (λ r. c.args.list.now ++ rows_of g r (expr c.args.body.now)) inner ∙ ap (λ l. c.args.list.now ++ l) (lam-rows g ctx (expr c.args.body.now) c.args.wanted.now c.in-Fun.params c.in-Fun.to c.in-Fun.is)

pub push_arg-push_plain-requires : goal.push_arg-push_plain-requires
push_arg-push_plain-requires t c = (omega (arith, c.decreases, size-Plain c.in-Plain.term c.args.arg.now c.in-Plain.is), (c.requires.valid, (c.requires.few_rows, subst (λ v. AreReadable c.args.env.now (rows c.args.ctx.now) v (c.args.wanted.now ∷ [])) (arg-plain c.args.arg.now c.in-Plain.term c.in-Plain.is) c.requires.parts)))

pub push_arg-push_lambda-requires : goal.push_arg-push_lambda-requires
push_arg-push_lambda-requires t c = (omega (arith, c.decreases, size-Lam c.in-Lam.body c.args.arg.now c.in-Lam.is), (c.requires.valid, (c.requires.few_rows, subst (λ v. AreReadable c.args.env.now (rows c.args.ctx.now) v (c.args.wanted.now ∷ [])) (arg-lam c.args.arg.now c.in-Lam.body c.in-Lam.is) c.requires.parts)))

pub push_rows-push_head-requires : goal.push_rows-push_head-requires
push_rows-push_head-requires t c =
    (rw c.as_slice.ensures (omega (arith, c.decreases, size-Head c.in-Head.number c.in-Head.args c.args.term.now c.in-Head.is)), (c.requires.valid, (c.requires.few_rows, head-part c.args.env.now (rows c.args.ctx.now) c.args.term.now c.in-Head.number c.in-Head.args c.as_slice.result.now c.in-Head.is c.as_slice.ensures c.requires.part)))

pub push_args-bounds-wanted-i : goal.push_args-bounds-wanted-i
push_args-bounds-wanted-i t c = wanted-there c.args.env.now (rows c.args.ctx.now) c.args.args.now c.args.wanted.now c.loop-i.i c.index-args-i.result c.loop-i-test.true c.index-args-i.is c.loop-i.invariant.parts

pub push_args-push_arg-requires : goal.push_args-push_arg-requires
push_args-push_arg-requires t c =
    let g = c.args.env.now in
    let ctx = rows c.args.ctx.now in
    let there = wanted-there g ctx c.args.args.now c.args.wanted.now c.loop-i.i c.index-args-i.result c.loop-i-test.true c.index-args-i.is c.loop-i.invariant.parts in
    let split = split-at g ctx c.args.args.now c.args.wanted.now c.loop-i.i c.index-args-i.result c.index-wanted-i.result c.loop-i-test.true c.index-args-i.is there c.index-wanted-i.is c.loop-i.invariant.parts in
    let smaller = sizes-of c.args.args.now c.loop-i.i c.index-args-i.result c.loop-i-test.true c.index-args-i.is in
    (omega (arith, c.decreases, smaller), (c.requires.valid, (c.requires.few_rows, split.first)))

pub push_args-overflow_add-weight : goal.push_args-overflow_add-weight
push_args-overflow_add-weight t c =
    let g = c.args.env.now in
    let ctx = rows c.args.ctx.now in
    let there = wanted-there g ctx c.args.args.now c.args.wanted.now c.loop-i.i c.index-args-i.result c.loop-i-test.true c.index-args-i.is c.loop-i.invariant.parts in
    let split = split-at g ctx c.args.args.now c.args.wanted.now c.loop-i.i c.index-args-i.result c.index-wanted-i.result c.loop-i-test.true c.index-args-i.is there c.index-wanted-i.is c.loop-i.invariant.parts in
    let e = weight-at g ctx c.args.args.now c.args.wanted.now c.loop-i.i c.index-args-i.result c.index-wanted-i.result there c.index-wanted-i.is split in
    let light = c.requires.parts.light in
    let more = c.in_ok-more.ensures.weight in
    let before = c.loop-i.invariant.weighed in
    omega (arith, e, light, more, before)

pub push_args-loop-i-preserved : goal.push_args-loop-i-preserved
push_args-loop-i-preserved t c =
    let g = c.args.env.now in
    let ctx = rows c.args.ctx.now in
    let there = wanted-there g ctx c.args.args.now c.args.wanted.now c.loop-i.i c.index-args-i.result c.loop-i-test.true c.index-args-i.is c.loop-i.invariant.parts in
    let split = split-at g ctx c.args.args.now c.args.wanted.now c.loop-i.i c.index-args-i.result c.index-wanted-i.result c.loop-i-test.true c.index-args-i.is there c.index-wanted-i.is c.loop-i.invariant.parts in
    let e = weight-at g ctx c.args.args.now c.args.wanted.now c.loop-i.i c.index-args-i.result c.index-wanted-i.result there c.index-wanted-i.is split in
    let r = rows-at g ctx c.args.args.now c.args.wanted.now c.loop-i.i c.index-args-i.result c.index-wanted-i.result there c.index-wanted-i.is split in
    let more = c.in_ok-more.ensures.weight in
    let before = c.loop-i.invariant.weighed in
    let rest = args_rows g ctx (args_view (drop (c.loop-i.i + 1) c.args.args.now)) (drop (c.loop-i.i + 1) c.args.wanted.now) in
    let one = args_rows g ctx (args_view (c.index-args-i.result ∷ [])) (c.index-wanted-i.result ∷ []) in
    record {
      parts = split.others;
      weighed = omega (arith, e, more, before);
      told = ap (λ l. l ++ rest) c.in_ok-more.ensures.rows ∙ append_assoc c.loop-i.list one rest ∙ ap (λ l. c.loop-i.list ++ l) (sym r) ∙ c.loop-i.invariant.told;
    }

pub push_args-returns-clause-weight : goal.push_args-returns-clause-weight
push_args-returns-clause-weight t c =
    let none = weight-end c.args.env.now (rows c.args.ctx.now) c.args.args.now c.args.wanted.now c.loop-i.i (omega arith) in
    let before = c.loop-i.invariant.weighed in
    omega (arith, none, before)

pub push_args-returns-clause-rows : goal.push_args-returns-clause-rows
push_args-returns-clause-rows t c =
    let none = rows-end c.args.env.now (rows c.args.ctx.now) c.args.args.now c.args.wanted.now c.loop-i.i (omega arith) in
    sym (append-nil c.loop-i.list) ∙ ap (λ l. c.loop-i.list ++ l) (sym none) ∙ c.loop-i.invariant.told

pub push_head-push_args-requires : goal.push_head-push_args-requires
push_head-push_args-requires t c =
    let at : slice_get c.args.env.now.decls c.args.number ≡ Some c.in-Some.decl.now = search rules in
    let ready = head-args c.args.env.now (rows c.args.ctx.now) c.args.number (args_view c.args.args.now) c.in-Some.decl.now at c.requires.part in
    (omega (arith, c.decreases), (c.requires.valid, (c.requires.few_rows, subst (λ ws. AreReadable c.args.env.now (rows c.args.ctx.now) (args_view c.args.args.now) ws) (sym c.as_slice.ensures) ready)))

pub push_head-overflow_add-row-in-Some : goal.push_head-overflow_add-row-in-Some
push_head-overflow_add-row-in-Some t c =
    let at : slice_get c.args.env.now.decls c.args.number ≡ Some c.in-Some.decl.now = search rules in
    let low = head-small c.args.env.now (rows c.args.ctx.now) c.args.number (args_view c.args.args.now) c.in-Some.decl.now at c.requires.part in
    let more = c.in_ok-more-in-Some.ensures.weight ∙ ap (args_weight c.args.env.now (rows c.args.ctx.now) (args_view c.args.args.now)) c.as_slice.ensures in
    omega (arith, low, more)

pub push_head-unreachable-requires : goal.push_head-unreachable-requires
push_head-unreachable-requires t c =
    let none : slice_get c.args.env.now.decls c.args.number ≡ None = search rules in
    head-there c.args.env.now (rows c.args.ctx.now) c.args.number (args_view c.args.args.now) c.requires.part none

pub push_head-returns-clause-rated : goal.push_head-returns-clause-rated
push_head-returns-clause-rated t c =
    let g = c.args.env.now in
    let ctx = rows c.args.ctx.now in
    let xs = args_view c.args.args.now in
    let decl = c.in-Some.decl.now in
    let at : slice_get g.decls c.args.number ≡ Some decl = search rules in
    let ready = head-args g ctx c.args.number xs decl at c.requires.part in
    let more : c.in_ok-more-in-Some.more ≡ args_weight g ctx xs decl.args = c.in_ok-more-in-Some.ensures.weight ∙ ap (args_weight g ctx xs) c.as_slice.ensures in
    head-rated g ctx c.args.number xs decl (record { code = 2 * c.args.number + 1; result = decl.result; weight = decl.weight + c.in_ok-more-in-Some.more }) at ready refl (ap (λ w. decl.weight + w) more)

pub push_head-returns-clause-rows : goal.push_head-returns-clause-rows
push_head-returns-clause-rows t c =
    let g = c.args.env.now in
    let ctx = rows c.args.ctx.now in
    let xs = args_view c.args.args.now in
    let decl = c.in-Some.decl.now in
    let at : slice_get g.decls c.args.number ≡ Some decl = search rules in
    let ready = head-args g ctx c.args.number xs decl at c.requires.part in
    let first : Row = record { code = 2 * c.args.number + 1; result = decl.result; weight = decl.weight } in
    head-final g ctx c.args.number xs decl c.args.list.now c.push.new.self c.push_args.new.list c.set.new.self c.len-place.result c.in_ok-more-in-Some.more first c.as_slice.result.now at ready c.as_slice.ensures c.in_ok-more-in-Some.ensures.weight c.in_ok-push-in-Some.ensures.ok c.in_ok-more-in-Some.ensures.rows c.len-place.ensures c.set.ensures
