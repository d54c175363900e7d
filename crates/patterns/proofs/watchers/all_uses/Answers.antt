use Rattle.std.proofs.Common.{◌∙◌, refl, rules}
use Rattle.patterns.proofs.Used.{used-states, used-all, state-at}
use Rattle.patterns.proofs.watchers.all_uses.Goals as goal

pub loop-place-preserved : goal.loop-place-preserved
loop-place-preserved c = record {
  used = used-states c.args.sets.now c.args.kinds.now.all.now c.args.states.now.keys c.at.result.now _ _ c.loop-place.place _ (state-at c.args.states.now.keys c.as_slice.result.now c.loop-place.place _ _ c.as_slice.ensures.keys refl (search rules)) c.in_ok-add_state_uses.ensures.grown (c.at.ensures.value ∙ c.args.kinds.now.right _) c.in_ok-add_state_uses.ensures.used c.loop-place.invariant.used;
  in_range = c.in_ok-add_state_uses.ensures.in_range c.loop-place.invariant.in_range;
}

pub returns-clause-used : goal.returns-clause-used
returns-clause-used c = used-all c.args.sets.now c.args.kinds.now.all.now c.args.states.now.keys _ c.loop-place.place (search rules) c.loop-place.invariant.used
