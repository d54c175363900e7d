use Rattle.std.proofs.Common.{rules, ◌≡◌, true}
use Rattle.graphs.specs.Graph.{is_marked}
use Rattle.graphs.specs.Joined.{root_of}
use Rattle.graphs.proofs.Turning.{way-by}
use Rattle.graphs.proofs.joined.Joined.is_way.Goals as goal

pub returns-then-is_marked : goal.returns-then-is_marked
returns-then-is_marked c graph known way =
    let same : root_of c.args.self.now.roots.items c.args.from ≡ root_of c.args.self.now.roots.items c.args.to = search rules in
    let above : is_marked c.args.self.now.above.items c.args.from ≡ true = search rules in
    let below : is_marked c.args.self.now.below.items c.args.to ≡ true = search rules in
    way-by graph c.args.self.now.roots.items c.args.self.now.above.items c.args.self.now.below.items c.args.from c.args.to known.above known.below same above below
