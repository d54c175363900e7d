use Rattle.std.proofs.Common.{refl, ◌∙◌, arith}
use Rattle.weight_bounds.proofs.Steps.{step-none, step-then}
use Rattle.weight_bounds.proofs.Waking.{none-below, next-below, all-settled}
use Rattle.weight_bounds.proofs.solving.relax_all.Goals as goal

pub loop-left-init : goal.loop-left-init
loop-left-init c = record {
  step = step-none _ _ _ _;
  outside = c.in_ok-relax_sources.ensures.settled;
  before = none-below _ _ _ _;
  as_many = refl;
}

pub loop-left-preserved : goal.loop-left-preserved
loop-left-preserved c =
    let first = c.in_ok-relax_variables.ensures.step in
    let second = c.in_ok-relax_sources-2.ensures.step in
    record {
      step = step-then _ _ _ _ _ _ _ _ c.loop-left.invariant.step (step-then _ _ _ _ _ _ _ _ first second);
      outside = λ k s at. second.settled _ (first.settled _ (c.loop-left.invariant.outside k s at));
      before = next-below _ _ c.loop-left.left _ _ _ _ _ _ first second c.loop-left.invariant.before c.in_ok-relax_variables.ensures.settled c.in_ok-relax_sources-2.ensures.settled;
      as_many = second.as_many ∙ first.as_many ∙ c.loop-left.invariant.as_many;
    }

pub returns-clause-step : goal.returns-clause-step
returns-clause-step c = step-then _ _ _ _ _ _ _ _ c.in_ok-relax_sources.ensures.step c.loop-left.invariant.step

pub returns-clause-settled : goal.returns-clause-settled
returns-clause-settled c r rule = (let past = c.loop-left-test.false in all-settled _ _ c.loop-left.left _ _ (omega (arith, past)) c.loop-left.invariant.outside c.loop-left.invariant.before r rule)
