use Rattle.std.proofs.Common.{◌≡◌, ◌<◌, ℕ, true, length, take, slice_index_or}
use Rattle.succinct.specs.Sets.{has}
use Rattle.least_weights.specs.Users.{Leads, AreChains}
use Rattle.least_weights.proofs.users.add_tails.Given as goal

abbrev pub invariant-loop-tail : goal.invariant-loop-tail
invariant-loop-tail l = record {
  as_many : length l.firsts.items ≡ length l.initial.firsts.items;
  chains : AreChains l.firsts.items l.links.items;
  kept : (t m : ℕ) → Leads l.initial.links.items (slice_index_or l.initial.firsts.items t 0) m → Leads l.links.items (slice_index_or l.firsts.items t 0) m;
  added : (t : ℕ) → has t (take l.tail-index l.initial.tails) ≡ true → t < length l.initial.firsts.items → Leads l.links.items (slice_index_or l.firsts.items t 0) l.initial.edge;
}
