use Rattle.std.proofs.Common.{◌≡◌, take}
use Rattle.std.specs.BTreeMap.{get_by_text}
use Rattle.usage_counts.specs.Counts.{Key}
use Rattle.usage_counts.specs.Additions.{raised_by}
use Rattle.usage_counts.specs.Tallies.{amount}
use Rattle.usage_counts.proofs.additions.add_each.Given as goal

abbrev pub invariant-loop-tally : goal.invariant-loop-tally
invariant-loop-tally l = (q : Key) → get_by_text l.uses q ≡ raised_by (amount q (take l.tally-index l.tallies)) (get_by_text l.fn.uses q)
