use Rattle.std.proofs.Common.{◌≡◌, ◌++◌, take}
use Rattle.std.specs.List.{flat_map}
use Rattle.usage_counts.specs.Uses.{used}
use Rattle.usage_counts.specs.Files.{AreNamed}
use Rattle.usage_counts.specs.Tallies.{key_at}
use Rattle.usage_counts.proofs.code_members.add_members.Given as goal

abbrev pub invariant-loop-i : goal.invariant-loop-i
invariant-loop-i l = record {
  named : AreNamed l.pool.entries l.bytes (take l.i-index l.list);
  keys_are : flat_map (key_at l.pool.entries) l.members.items ≡ flat_map (key_at l.pool.entries) l.fn.members.items ++ flat_map (used l.pool.entries l.bytes) (take l.i-index l.list);
}
