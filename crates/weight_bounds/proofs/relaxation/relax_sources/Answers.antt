use Rattle.std.proofs.Common.{◌∙◌, arith}
use Rattle.weight_bounds.proofs.Sourced.{next-settled, source-within}
use Rattle.weight_bounds.proofs.Steps.{step-then}
use Rattle.weight_bounds.proofs.relaxation.relax_sources.Goals as goal

pub loop-source-preserved : goal.loop-source-preserved
loop-source-preserved c =
    let step = c.in_ok-relax_source.ensures.step in
    record {
      step = step-then _ _ _ _ _ _ _ _ c.loop-source.invariant.step step;
      settled = next-settled c.args.setting.now.parts.now c.args.setting.now.limit.value c.args.left c.loop-source.source _ _ _ _ step c.loop-source.invariant.settled c.in_ok-relax_source.ensures.settled;
      as_many = step.as_many ∙ c.loop-source.invariant.as_many;
    }

pub returns-clause-settled : goal.returns-clause-settled
returns-clause-settled c k s at = (let low = source-within c.args.setting.now.parts.now k s at in let past = c.loop-source-test.false in c.loop-source.invariant.settled k s (omega (arith, low, past)) at)
