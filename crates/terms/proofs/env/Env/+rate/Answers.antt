use Rattle.std.proofs.Common.{◌∙◌, Some, sym, ap, arith}
use Rattle.terms.specs.Rating.{plus}
use Rattle.terms.proofs.Ratings.{rated_args-stop, rated_args-go, rated_args-end, plus_zero, plus_end}
use Rattle.terms.proofs.env.Env.+rate.Goals as goal

pub rate_args-loop-i-init : goal.rate_args-loop-i-init
rate_args-loop-i-init t c = record {
  long = c.if-args-wanted.false;
  small = omega arith;
  rest = plus_zero _ _ _ _;
}

pub rate_args-returns-in-None-clause-exact : goal.rate_args-returns-in-None-clause-exact
rate_args-returns-in-None-clause-exact t c =
    sym (c.loop-i.invariant.rest ∙ rated_args-stop _ _ _ _ c.loop-i.i c.index-args-i.result c.index-wanted-i.result c.loop-i.sum (omega arith) (omega (arith, c.loop-i.invariant.long)) c.index-args-i.is c.index-wanted-i.is
    (sym c.rate_arg.ensures.exact ∙ c.in-None.is))

pub rate_args-loop-i-preserved : goal.rate_args-loop-i-preserved
rate_args-loop-i-preserved t c = record {
  long = c.loop-i.invariant.long;
  small = omega (arith, c.capped-sum.ensures);
  rest = c.loop-i.invariant.rest ∙ rated_args-go _ _ _ _ c.loop-i.i c.index-args-i.result c.index-wanted-i.result c.loop-i.sum c.in-Some.more c.capped-sum.result (omega arith) (omega (arith, c.loop-i.invariant.long)) c.index-args-i.is c.index-wanted-i.is
      (sym c.rate_arg.ensures.exact ∙ c.in-Some.is) c.capped-sum.ensures;
}

pub rate_args-returns-clause-exact : goal.rate_args-returns-clause-exact
rate_args-returns-clause-exact t c =
    sym (c.loop-i.invariant.rest ∙ ap (plus (Some c.loop-i.sum)) (rated_args-end _ _ _ _ c.loop-i.i (omega arith) (omega (arith, c.loop-i.invariant.long))) ∙ plus_end c.loop-i.sum c.loop-i.invariant.small)
