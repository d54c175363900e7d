use Rattle.std.proofs.Common.{take}
use Rattle.offers.specs.Kept.{AreOwners}
use Rattle.offers.proofs.crowds.owners_of.Given as goal

abbrev pub invariant-loop-member : goal.invariant-loop-member
invariant-loop-member l = AreOwners (take l.member-index l.members) l.kinds l.at.items
