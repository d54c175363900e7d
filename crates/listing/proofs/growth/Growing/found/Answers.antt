use Rattle.std.proofs.Common.{subst}
use Rattle.listing.specs.Found.{Growth, IsListed}
use Rattle.listing.proofs.Keeping.{listed}
use Rattle.listing.proofs.growth.Growing.found.Goals as goal

pub returns-clause-listed : goal.returns-clause-listed
returns-clause-listed g c =
    let s = c.self.inside in
    subst (λ (x : Growth). IsListed x.listed) c.self.view_is
    (listed (g.E.Levels.progress s.levels) s.found.items s.waiting s.keyed.items s.weight s.below (g.E.Levels.reached s.levels) (g.E.Levels.popped s.levels) s.at_end c.self.invariant.0 c.self.invariant.1)
