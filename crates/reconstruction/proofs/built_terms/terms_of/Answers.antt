use Rattle.reconstruction.proofs.Stacks.{ended_at, more_terms}
use Rattle.reconstruction.proofs.built_terms.terms_of.Goals as goal

pub term_of-requires-clause-ended : goal.term_of-requires-clause-ended
term_of-requires-clause-ended c = ended_at c.args.tables.now.env c.args.arena.now c.args.found.now c.loop-number.number 0 c.loop-number-test.true c.requires.ended

pub loop-number-preserved : goal.loop-number-preserved
loop-number-preserved c = more_terms c.args.tables.now.env c.args.arena.now c.args.found.now c.loop-number.number 0 c.loop-number.terms c.push.new.self c.in_ok-term_of.field-0 c.loop-number-test.true c.loop-number.invariant c.in_ok-term_of.ensures.term c.in_ok-push.ensures.ok
