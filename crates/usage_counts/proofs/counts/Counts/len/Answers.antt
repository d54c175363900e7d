use Rattle.std.proofs.Common.{subst}
use Rattle.usage_counts.specs.Counts.{KeysRise}
use Rattle.usage_counts.proofs.NumberLaws.{numbers-rise}
use Rattle.usage_counts.proofs.counts.Counts.len.Goals as goal

pub returns-clause-rising : goal.returns-clause-rising
returns-clause-rising c = subst KeysRise c.self.view_is (numbers-rise c.self.inside.uses c.len.ensures.ordered)
