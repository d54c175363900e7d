use Rattle.std.proofs.Common.{map, take}
use Rattle.offers.specs.Grouping.{AreGroups}
use Rattle.offers.specs.Hashing.{count_hash}
use Rattle.offers.proofs.hashes.count_groups.Given as goal

abbrev pub invariant-loop-i : goal.invariant-loop-i
invariant-loop-i l = AreGroups (map count_hash (take l.i l.members)) l.groups
