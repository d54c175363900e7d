use Rattle.std.proofs.Common.{subst, sym, ◌∙◌, ap}
use Rattle.std.specs.List.{slice_get}
use Rattle.usage_counts.specs.Counts.{KeysRise}
use Rattle.usage_counts.proofs.NumberLaws.{number-there}
use Rattle.usage_counts.proofs.counts.Counts.at.Goals as goal

pub returns-in-Some-clause-is : goal.returns-in-Some-clause-is
returns-in-Some-clause-is c =
    ap (λ m. slice_get m c.args.i) (sym c.self.view_is) ∙ number-there c.self.inside.uses.entries c.args.i c.in-Some.key.now c.in-Some.number.now c.as_str.result.now (sym c.in-Some.ensures.is) c.as_str.ensures.value

pub returns-in-Some-clause-rising : goal.returns-in-Some-clause-rising
returns-in-Some-clause-rising c = subst KeysRise c.self.view_is c.in-Some.ensures.rising
