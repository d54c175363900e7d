use Rattle.std.proofs.Common.{map, rules}
use Rattle.std.proofs.lemmas.List.{get_or_read}
use Rattle.patterns.proofs.Quiet.{next-quiet, quiet-end}
use Rattle.patterns.proofs.saturate.look.Goals as goal

pub loop-i-preserved : goal.loop-i-preserved
loop-i-preserved c = record {
  as_many = c.in_ok-wake.ensures.as_many;
  sound = λ before. c.in_ok-wake.ensures.sound (c.loop-i.invariant.sound before);
  quiet = next-quiet c.args.sets.now c.args.kinds.now c.args.states.now.keys c.args.uses.now c.loop-i.marks.items c.wake.new.marks.items c.loop-i.worklist.items c.wake.new.worklist.items (map (λ v. v.items) c.args.groups.now.items) c.list_at.result.now c.loop-i.i c.index-place.result.now _ (search rules) (get_or_read c.loop-i.worklist.items c.loop-i.i c.index-place.result.now (search rules) c.index-place.ensures 0) c.list_at.ensures.value c.requires.grouped c.requires.targets c.requires.used c.in_ok-wake.ensures.quiet c.loop-i.invariant.quiet;
}

pub returns-then-i-len-clause-settled : goal.returns-then-i-len-clause-settled
returns-then-i-len-clause-settled c = quiet-end c.args.sets.now c.args.kinds.now c.args.states.now.keys c.args.uses.now _ _ c.loop-i.i (search rules) c.loop-i.invariant.quiet
