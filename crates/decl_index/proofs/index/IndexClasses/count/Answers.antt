use Rattle.std.proofs.Common.{rules, ◌≡◌, map, subst}
use Rattle.std.specs.Arc.{arc_value}
use Rattle.known_classes.specs.Known.{HasEachOnce}
use Rattle.decl_index.proofs.Cycles.{each_once}
use Rattle.decl_index.proofs.index.IndexClasses.count.Goals as goal

pub returns-clause-once : goal.returns-clause-once
returns-clause-once c =
    let view : map arc_value (arc_value c.self.inside.classes).items ≡ c.args.self.now.classes = search rules in
    subst HasEachOnce view (each_once (map arc_value (arc_value c.self.inside.classes).items) c.self.invariant.0)
