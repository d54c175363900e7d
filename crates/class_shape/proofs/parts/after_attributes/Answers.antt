use Rattle.std.proofs.Common.{◌∙◌, rules, arith}
use Rattle.class_shape.specs.Reading.{attribute_at}
use Rattle.class_shape.proofs.Loops.{moved, pass_more, pass_ends, pass_done}
use Rattle.class_shape.proofs.parts.after_attributes.Goals as goal

pub returns-in_err-next-clause-exact : goal.returns-in_err-next-clause-exact
returns-in_err-next-clause-exact c =
    let same = c.loop.invariant.same_end in
    search (rules, pass_ends (attribute_at c.args.left.end) _ _ _ c.in_err-next.field-0.0 _ c.loop-test.true (λ some. moved attribute_at _ _ _ _ same (c.in_err-next.ensures.exact some)) c.loop.invariant.so_far)

pub loop-preserved : goal.loop-preserved
loop-preserved c =
    let same = c.loop.invariant.same_end in
    let read = c.in_ok-next.ensures.exact in
    record {
      same_end = read.1 ∙ same;
      within = omega (arith, c.in_ok-next.ensures.shorter, c.loop.invariant.within);
      so_far = pass_more (attribute_at c.args.left.end) _ _ _ _ _ _ c.loop-test.true (moved attribute_at _ _ _ _ same read.0) c.loop.invariant.so_far;
    }

pub returns-clause-exact : goal.returns-clause-exact
returns-clause-exact c = pass_done (attribute_at c.args.left.end) _ _ _ _ c.loop-test.false c.loop.invariant.so_far
