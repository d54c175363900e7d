use Rattle.std.proofs.Common.{◌∙◌}
use Rattle.std.proofs.lemmas.Result.{err_from_is_err_and}
use Rattle.class_shape.specs.Reading.{member_at}
use Rattle.class_shape.proofs.Loops.{moved, one_more, one_ends, all_done}
use Rattle.class_shape.proofs.tables.many_members.Goals as goal

pub returns-in_err-one : goal.returns-in_err-one
returns-in_err-one c =
    let same = c.loop.invariant.same_end in
    let p = err_from_is_err_and c.from_residual.result c.from_residual.ensures.1 in
    let e = one_ends (member_at c.args.left.end) _ _ _ _ c.in_err-one.field-0.0 _ c.loop-test.true c.loop.invariant.so_far (λ some. moved member_at _ _ _ _ same (c.in_err-one.ensures some)) in
    rw (p.1, p.2) e

pub loop-preserved : goal.loop-preserved
loop-preserved c =
    let same = c.loop.invariant.same_end in
    let read = c.in_ok-one.ensures in
    let s = one_more (member_at c.args.left.end) _ _ _ _ _ _ _ c.loop-test.true c.loop.invariant.so_far (moved member_at _ _ _ _ same read.0) in
    record { same_end = read.1 ∙ same; so_far = rw c.in_ok-push.ensures.items s }

pub returns : goal.returns
returns c = (all_done (member_at c.args.left.end) _ _ _ _ _ c.loop-test.false c.loop.invariant.so_far, c.loop.invariant.same_end)
