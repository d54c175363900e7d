use Rattle.std.proofs.Common.{rules, ◌≡◌}
use Rattle.std.specs.Prelude.{None}
use Rattle.name_places.specs.Places.{place_of}
use Rattle.name_places.proofs.Places.{placed-call, grown-call}
use Rattle.name_places.proofs.names.Names.add.Goals as goal

pub returns-clause-placed : goal.returns-clause-placed
returns-clause-placed c =
    let fresh : place_of c.args.self.now c.args.name.now ≡ None = search rules in
    placed-call c.push.result c.args.self.now c.push.new.self c.args.name.now fresh c.push.ensures.added

pub returns-clause-grown : goal.returns-clause-grown
returns-clause-grown c =
    let fresh : place_of c.args.self.now c.args.name.now ≡ None = search rules in
    grown-call c.push.result c.args.self.now c.push.new.self c.args.name.now fresh c.push.ensures.added c.push.ensures.kept
