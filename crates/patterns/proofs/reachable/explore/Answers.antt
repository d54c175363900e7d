use Rattle.std.proofs.Common.{refl, ◌∙◌, arith}
use Rattle.patterns.proofs.Mets.{open-next, grown-trans}
use Rattle.patterns.proofs.Ranges.{range-next}
use Rattle.patterns.proofs.reachable.explore.Goals as goal

pub loop-i-preserved : goal.loop-i-preserved
loop-i-preserved c = record {
  grown = grown-trans _ _ _ c.loop-i.invariant.grown c.open_state.ensures.grown;
  in_range = range-next c.args.sets.now _ c.loop-i.states.keys c.as_slice.result.now c.open_state.new.states.keys c.loop-i.i _ _ (omega (arith, c.if-i-len.false, c.len.ensures.len)) c.as_slice.ensures.keys refl c.loop-i.invariant.in_range c.in_ok-open_state.ensures.in_range;
  opened = open-next c.args.sets.now c.args.kinds.now.all.now c.loop-i.states.keys c.as_slice.result.now c.open_state.new.states.keys c.at.result.now c.loop-i.i _ _ (omega (arith, c.if-i-len.false, c.len.ensures.len)) c.as_slice.ensures.keys refl c.open_state.ensures.grown c.loop-i.invariant.opened (c.at.ensures.value ∙ c.args.kinds.now.right _) c.in_ok-open_state.ensures.open;
}
