use Rattle.patterns.proofs.Lists.{lists-are, sound-none}
use Rattle.patterns.proofs.found_kinds.lists_of.Goals as goal

pub returns-clause-distinct : goal.returns-clause-distinct
returns-clause-distinct c = c.len.ensures.distinct

pub returns-clause-each : goal.returns-clause-each
returns-clause-each c = lists-are c.args.sets.now c.args.kinds.now.all.now c.args.states.now.keys c.settle.new.marks.items c.as_slice.result.now _ (c.len.ensures.distinct) c.requires.closed c.in_ok-settle.ensures.settled (c.in_ok-settle.ensures.sound (sound-none _ _ _ _ c.in_ok-marks.ensures.none)) c.as_slice.ensures.value c.in_ok-lists.ensures.each
