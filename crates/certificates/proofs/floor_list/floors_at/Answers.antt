use Rattle.std.proofs.Common.{get_or}
use Rattle.edges.proofs.Lists.{has-at}
use Rattle.certificates.proofs.floor_list.floors_at.Goals as goal

pub floor_at-requires-clause-in_range : goal.floor_at-requires-clause-in_range
floor_at-requires-clause-in_range c = c.requires.in_range (get_or c.args.states.now c.loop-state.state-index 0) (has-at c.args.states.now c.loop-state.state-index 0 c.loop-state-test.true)
