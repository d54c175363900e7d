use Rattle.std.proofs.Common.{◌≡◌, ◌++◌, take}
use Rattle.std.specs.List.{flat_map}
use Rattle.offers.specs.Types.{member_types}
use Rattle.offers.proofs.mentioned.add_members.Given as goal

abbrev pub invariant-loop-member : goal.invariant-loop-member
invariant-loop-member l = l.all ≡ l.initial.all ++ flat_map member_types (take l.member-index l.members)
