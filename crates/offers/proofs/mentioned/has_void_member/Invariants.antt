use Rattle.std.proofs.Common.{◌≡◌, take, not, false}
use Rattle.std.specs.Prelude.{is_some}
use Rattle.std.specs.List.{list_any}
use Rattle.offers.specs.Candidates.{value}
use Rattle.offers.proofs.mentioned.has_void_member.Given as goal

abbrev pub invariant-loop-member : goal.invariant-loop-member
invariant-loop-member l = list_any (λ m. not (is_some (value m))) (take l.member-index l.members) ≡ false
