use Rattle.std.proofs.Common.{map, take}
use Rattle.offers.specs.Grouping.{AreGroups}
use Rattle.offers.specs.Hashing.{call_hash}
use Rattle.offers.proofs.hashes.call_groups.Given as goal

abbrev pub invariant-loop-i : goal.invariant-loop-i
invariant-loop-i l = AreGroups (map call_hash (take l.i l.members)) l.groups
