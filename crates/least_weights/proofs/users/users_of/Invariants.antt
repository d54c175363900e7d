use Rattle.std.proofs.Common.{◌≡◌, ◌<◌, ℕ, true, length, slice_get, slice_index_or, Some}
use Rattle.succinct.specs.Sets.{has}
use Rattle.edges.specs.Edges.{Edge}
use Rattle.least_weights.specs.Users.{Leads, AreChains}
use Rattle.least_weights.proofs.users.users_of.Given as goal

abbrev pub invariant-loop-edge : goal.invariant-loop-edge
invariant-loop-edge l = record {
  as_many : length l.firsts.items ≡ l.initial.count;
  chains : AreChains l.firsts.items l.links.items;
  users : (m t : ℕ) (e : Edge) → m < l.edge → slice_get l.initial.edges m ≡ Some e → has t e.tails ≡ true → t < length l.firsts.items → Leads l.links.items (slice_index_or l.firsts.items t 0) m;
}
