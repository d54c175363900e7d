use Rattle.std.proofs.Common.{get_or, ◌∙◌}
use Rattle.edges.proofs.Lists.{has-at}
use Rattle.edges.proofs.Options.{none_some}
use Rattle.edges.proofs.tails.find_tails.Goals as goal

pub unreachable-requires : goal.unreachable-requires
unreachable-requires c = (let f = c.requires.found (get_or c.args.needs.now c.loop-need.need-index 0) (has-at c.args.needs.now c.loop-need.need-index 0 c.loop-need-test.true) in none_some f.0 (c.in-None.ensures.value ∙ f.1))
