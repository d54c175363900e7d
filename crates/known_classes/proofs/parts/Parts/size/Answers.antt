use Rattle.std.proofs.Common.{rules, ◌≡◌, length}
use Rattle.known_classes.proofs.MergedPlaces.{size_is, once_is}
use Rattle.known_classes.proofs.parts.Parts.size.Goals as goal

pub returns-clause-size : goal.returns-clause-size
returns-clause-size g c =
    let v : c.len.result ≡ length c.self.inside.added.items = search rules in
    size_is (g.C.Classes.listed c.self.inside.base.now) c.self.inside.extra c.args.self.now c.self.inside.added.items c.count.result c.len.result c.self.invariant.0 c.self.view_is c.count.ensures.size v

pub returns-clause-once : goal.returns-clause-once
returns-clause-once g c = once_is (g.C.Classes.listed c.self.inside.base.now) c.self.inside.extra c.args.self.now c.self.view_is c.count.ensures.once
