use Rattle.std.proofs.Common.{arith}
use Rattle.patterns.proofs.Quiet.{quiet-none, quiet-all}
use Rattle.patterns.proofs.saturate.first_round.Goals as goal

pub loop-place-init : goal.loop-place-init
loop-place-init c = record {
  as_many = c.requires.as_many;
  sound = λ before. before;
  quiet = λ uses. quiet-none c.args.sets.now c.args.kinds.now.all.now c.args.states.now.keys uses _ _ 0 _;
}

pub loop-place-preserved : goal.loop-place-preserved
loop-place-preserved c = record {
  as_many = c.in_ok-mark_seen.ensures.as_many;
  sound = λ before. c.in_ok-mark_seen.ensures.sound (c.loop-place.invariant.sound before);
  quiet = λ uses. c.in_ok-mark_seen.ensures.quiet uses (c.loop-place.invariant.quiet uses);
}

pub returns-clause-quiet : goal.returns-clause-quiet
returns-clause-quiet c uses = quiet-all c.args.sets.now c.args.kinds.now.all.now c.args.states.now.keys uses _ _ 0 _ c.loop-place.place _ (omega (arith, c.loop-place-test.false, c.len-place-end.ensures.len)) (c.loop-place.invariant.quiet uses)
