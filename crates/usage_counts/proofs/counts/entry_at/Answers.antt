use Rattle.usage_counts.proofs.NumberLaws.{numbers-rise}
use Rattle.usage_counts.proofs.counts.entry_at.Goals as goal

pub returns-clause-rising : goal.returns-clause-rising
returns-clause-rising c = numbers-rise c.args.uses.now c.iter.ensures.ordered
