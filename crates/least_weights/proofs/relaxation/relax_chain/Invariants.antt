use Rattle.std.proofs.Common.{◌≡◌, ◌⊎◌, ◌≤◌, ℕ, length, slice_get, Some}
use Rattle.edges.specs.Edges.{Edge}
use Rattle.least_weights.specs.Numbers.{IsStep, IsSettled}
use Rattle.least_weights.specs.Users.{Leads}
use Rattle.least_weights.proofs.relaxation.relax_chain.Given as goal

abbrev pub invariant-loop-at : goal.invariant-loop-at
invariant-loop-at l = record {
  within : l.at ≤ length l.initial.links;
  step : IsStep l.initial.limit.value l.initial.edges l.initial.numbers.items l.initial.queue.items l.numbers.items l.queue.items;
  left : (m : ℕ) (e : Edge) → Leads l.initial.links l.initial.first m → slice_get l.initial.edges m ≡ Some e → IsSettled l.initial.limit.value l.numbers.items l.queue.items e ⊎ Leads l.initial.links l.at m;
  as_many : length l.numbers.items ≡ length l.initial.numbers.items;
}

abbrev pub decreases-loop-at : goal.decreases-loop-at
decreases-loop-at l = l.at
