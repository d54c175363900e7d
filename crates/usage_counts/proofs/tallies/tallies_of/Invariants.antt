use Rattle.std.proofs.Common.{◌≡◌, ℕ, take}
use Rattle.std.specs.List.{sum_by}
use Rattle.usage_counts.specs.declared.members.MemberPlace.{MemberPlace}
use Rattle.usage_counts.specs.Tallies.{places_sum}
use Rattle.usage_counts.proofs.tallies.tallies_of.Given as goal

abbrev pub invariant-loop-member : goal.invariant-loop-member
invariant-loop-member l = (f : MemberPlace → ℕ) → places_sum f l.tallies.items ≡ sum_by f (take l.member-index l.members)
