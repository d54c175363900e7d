use Rattle.std.proofs.Common.{refl, arith}
use Rattle.patterns.proofs.Quiet.{quiet-past, marked-quiet, unmet-quiet, tried-quiet, tried-sound}
use Rattle.patterns.proofs.saturate.try_use.Goals as goal

pub returns-then-place-len-clause-quiet : goal.returns-then-place-len-clause-quiet
returns-then-place-len-clause-quiet c uses number i count rest is low = quiet-past c.args.sets.now c.args.kinds.now c.args.states.now.keys uses _ _ i number rest count c.args.one is (omega (arith, c.if-place-len.true, c.len.ensures.len))

pub returns-then-is_marked-clause-quiet : goal.returns-then-is_marked-clause-quiet
returns-then-is_marked-clause-quiet c uses number i count rest is low = marked-quiet c.args.sets.now c.args.kinds.now c.args.states.now.keys uses _ c.as_slice.result.now _ i number rest count c.args.one _ is c.as_slice.ensures.value c.is_marked.ensures.value c.if-is_marked.true

pub returns-then-not-kind_ends_met-clause-quiet : goal.returns-then-not-kind_ends_met-clause-quiet
returns-then-not-kind_ends_met-clause-quiet c uses number i count rest is low = unmet-quiet c.args.sets.now c.args.kinds.now c.args.states.now.keys uses c.as_slice-2.result.now _ c.as_slice-3.result.now _ i number rest count c.args.one _ _ _ is c.as_slice-2.ensures.keys c.as_slice-3.ensures.value refl (omega (arith, c.if-place-len.false, c.len.ensures.len)) c.kind_ends_met.ensures.value c.if-not-kind_ends_met.true

pub returns-clause-sound : goal.returns-clause-sound
returns-clause-sound c = tried-sound c.args.sets.now c.args.kinds.now c.args.states.now.keys c.as_slice-2.result.now c.args.marks.now.items _ c.as_slice-3.result.now c.args.one.place c.args.one.kind _ _ _ c.as_slice-2.ensures.keys c.as_slice-3.ensures.value refl (omega (arith, c.if-place-len.false, c.len.ensures.len)) c.kind_ends_met.ensures.value c.if-not-kind_ends_met.false c.in_ok-mark.ensures.marked

pub returns-clause-quiet : goal.returns-clause-quiet
returns-clause-quiet c uses number i count rest is low = tried-quiet c.args.sets.now c.args.kinds.now c.args.states.now.keys uses _ _ _ _ i number rest count c.args.one is c.in_ok-mark.ensures.marked c.in_ok-mark.ensures.listed (omega (arith, c.if-place-len.false, c.len.ensures.len, c.requires.as_many)) low
