use Rattle.std.proofs.Common.{refl, arith}
use Rattle.patterns.proofs.Quiet.{seen-sound, seen-quiet, unseen-quiet}
use Rattle.patterns.proofs.saturate.mark_seen.Goals as goal

pub returns-then-not-is_seen-clause-quiet : goal.returns-then-not-is_seen-clause-quiet
returns-then-not-is_seen-clause-quiet c uses = unseen-quiet c.args.sets.now c.args.kinds.now.all.now c.args.states.now.keys uses c.as_slice.result.now c.args.marks.now.items c.as_slice-2.result.now _ c.args.place _ _ _ c.as_slice.ensures.keys c.as_slice-2.ensures.value refl c.requires.in_range c.is_seen.ensures.value c.if-not-is_seen.true

pub returns-clause-sound : goal.returns-clause-sound
returns-clause-sound c = seen-sound c.args.sets.now c.args.kinds.now.all.now c.args.states.now.keys c.as_slice.result.now c.args.marks.now.items _ c.as_slice-2.result.now c.args.place _ _ _ c.as_slice.ensures.keys c.as_slice-2.ensures.value refl c.requires.in_range c.is_seen.ensures.value c.if-not-is_seen.false c.in_ok-mark.ensures.marked

pub returns-clause-quiet : goal.returns-clause-quiet
returns-clause-quiet c uses = seen-quiet c.args.sets.now c.args.kinds.now.all.now c.args.states.now.keys uses _ _ _ _ c.args.place c.in_ok-mark.ensures.marked c.in_ok-mark.ensures.listed (omega (arith, c.requires.in_range, c.requires.as_many))
