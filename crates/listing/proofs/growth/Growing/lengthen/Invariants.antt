use Rattle.std.proofs.Common.{◌≡◌, ◌≤◌, ◌+◌, ◌-◌, length, false, cond}
use Rattle.listing.specs.Found.{IsLonger, IsNoFurther}
use Rattle.listing.proofs.growth.Growing.lengthen.Given as goal

abbrev pub invariant-loop-alloc : goal.invariant-loop-alloc
invariant-loop-alloc g l = record {
  parts : l.self.listed.parts ≡ l.fn.self.listed.parts;
  longer : IsLonger l.fn.self.listed.found l.self.listed.found;
  bound : IsNoFurther l.self.listed.parts l.wanted l.fn.self.listed.found l.self.listed.found;
  end : l.self.listed.at_end ≡ false → l.fn.self.listed.at_end ≡ false;
  pops_rise : l.fn.self.listed.pops ≤ l.self.listed.pops;
}

abbrev pub decreases-loop-alloc : goal.decreases-loop-alloc
decreases-loop-alloc g l = (l.wanted - length l.self.listed.found) + cond l.self.listed.at_end 0 1
