use Rattle.std.proofs.Common.{◌∙◌, arith}
use Rattle.std.proofs.lemmas.Option.{slice_get_within}
use Rattle.edges.proofs.Options.{there}
use Rattle.least_weights.proofs.Steps.{step-then, settled-next}
use Rattle.least_weights.proofs.relaxation.relax_all.Goals as goal

pub loop-edge-preserved : goal.loop-edge-preserved
loop-edge-preserved c =
    let low = c.loop-edge-test.true in
    let long = c.len-edge-end.ensures.value in
    let x = there c.args.edges.now c.loop-edge.edge (omega (arith, low, long)) in
    let step = c.in_ok-relax.ensures.step in
    record {
      step = step-then _ _ _ _ _ _ _ _ c.loop-edge.invariant.step step;
      settled = settled-next _ _ _ _ _ _ _ _ x.1 step c.loop-edge.invariant.settled (c.in_ok-relax.ensures.settled x.0 x.1);
      as_many = c.relax.ensures.as_many ∙ c.loop-edge.invariant.as_many;
    }

pub returns-clause-settled : goal.returns-clause-settled
returns-clause-settled c m e at =
    let low = slice_get_within c.args.edges.now m e at in
    let long = c.len-edge-end.ensures.value in
    c.loop-edge.invariant.settled m e (omega (arith, low, long, c.loop-edge-test.false)) at
