use Rattle.std.proofs.Common.{◌≡◌, ◌≤◌, ◌+◌, ◌-◌, ◌++◌, length, map}
use Rattle.std.specs.Vec.{vec_len, vec_capacity}
use Rattle.listing.specs.Found.{item_of}
use Rattle.listing.proofs.growth.move_items.Given as goal

abbrev pub invariant-loop-keyed : goal.invariant-loop-keyed
invariant-loop-keyed l = record {
  items : l.found.items ≡ l.fn.found.items ++ map item_of l.yielded;
  room : vec_len l.found + (vec_len l.fn.level - length l.yielded) ≤ vec_capacity l.found;
}
