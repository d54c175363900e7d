use Rattle.std.proofs.Common.{◌≡◌, take}
use Rattle.std.specs.BTreeMap.{get_by_text}
use Rattle.usage_counts.specs.Counts.{Key}
use Rattle.usage_counts.specs.Additions.{placed_by, used_of}
use Rattle.usage_counts.specs.Tallies.{amount}
use Rattle.usage_counts.proofs.additions.place_all.Given as goal

abbrev pub invariant-loop-tally : goal.invariant-loop-tally
invariant-loop-tally l = record {
  placed : (q : Key) → get_by_text l.uses q ≡ placed_by (amount q (take l.tally-index l.tallies)) (get_by_text l.fn.uses q);
  used : used_of l.uses.entries ≡ used_of l.fn.uses.entries;
}
