use Rattle.std.proofs.Common.{refl, arith, rules}
use Rattle.patterns.proofs.Quiet.{wake-next, wake-end}
use Rattle.patterns.proofs.saturate.wake.Goals as goal

pub loop-number-preserved : goal.loop-number-preserved
loop-number-preserved c = record {
  as_many = c.in_ok-try_numbered.ensures.as_many;
  longer = omega (arith, c.loop-number.invariant.longer, c.in_ok-try_numbered.ensures.longer);
  sound = λ before. c.in_ok-try_numbered.ensures.sound (c.loop-number.invariant.sound before);
  quiet = wake-next c.args.sets.now c.args.kinds.now c.args.states.now.keys c.args.uses.now _ _ _ _ _ _ c.args.numbers.now c.loop-number.number-index _ (search rules) refl c.loop-number.invariant.longer c.in_ok-try_numbered.ensures.quiet c.loop-number.invariant.quiet;
}

pub returns-clause-quiet : goal.returns-clause-quiet
returns-clause-quiet c i count low q = wake-end c.args.sets.now c.args.kinds.now c.args.states.now.keys c.args.uses.now _ _ c.args.numbers.now c.loop-number.number-index i count (search rules) (c.loop-number.invariant.quiet i count low q)
