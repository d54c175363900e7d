use Rattle.std.proofs.Common.{◌≡◌, ◌+◌}
use Rattle.listing.proofs.growth.Growing.make_texts.Given as goal

abbrev pub invariant-loop-alloc : goal.invariant-loop-alloc
invariant-loop-alloc g l = record {
  listed : l.self.listed ≡ l.fn.self.listed;
  held : l.self.waiting + l.self.keyed ≡ l.fn.self.waiting + l.fn.self.keyed;
}

abbrev pub decreases-loop-alloc : goal.decreases-loop-alloc
decreases-loop-alloc g l = l.self.waiting
