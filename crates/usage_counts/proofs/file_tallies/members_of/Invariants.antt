use Rattle.std.proofs.Common.{take}
use Rattle.std.specs.List.{flat_map}
use Rattle.usage_counts.specs.Files.{UsesOfCodes}
use Rattle.usage_counts.specs.Tallies.{key_at}
use Rattle.usage_counts.proofs.file_tallies.members_of.Given as goal

abbrev pub invariant-loop-range : goal.invariant-loop-range
invariant-loop-range l = UsesOfCodes l.pool.entries l.bytes (take l.range-index l.ranges) (flat_map (key_at l.pool.entries) l.members.items)
