use Rattle.std.proofs.Common.{rules}
use Rattle.patterns.proofs.Ranges.{range-call}
use Rattle.patterns.proofs.openings.open_need.Goals as goal

pub returns-in-Some-set_sought-clause-in_range : goal.returns-in-Some-set_sought-clause-in_range
returns-in-Some-set_sought-clause-in_range c = range-call c.list_state.result c.args.sets.now _ _ c.args.from c.args.need c.in-Some.wanted c.in-Some-set_sought.set (search rules) (search rules) c.list_state.ensures.only
