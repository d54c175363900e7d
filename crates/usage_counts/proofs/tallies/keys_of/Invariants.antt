use Rattle.std.proofs.Common.{◌≡◌, take}
use Rattle.usage_counts.specs.Counts.{Key, times}
use Rattle.usage_counts.specs.Tallies.{key_at, places_sum, amount}
use Rattle.usage_counts.proofs.tallies.keys_of.Given as goal

abbrev pub invariant-loop-tally : goal.invariant-loop-tally
invariant-loop-tally l = (q : Key) → amount q l.keys.items ≡ places_sum (λ m. times q (key_at l.pool.entries m)) (take l.tally-index l.tallies)
