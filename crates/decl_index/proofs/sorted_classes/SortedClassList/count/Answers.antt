use Rattle.std.proofs.Common.{map, subst}
use Rattle.std.specs.Arc.{arc_value}
use Rattle.known_classes.specs.Known.{HasEachOnce}
use Rattle.decl_index.proofs.Cycles.{each_once}
use Rattle.decl_index.proofs.sorted_classes.SortedClassList.count.Goals as goal

pub returns-clause-once : goal.returns-clause-once
returns-clause-once c = subst HasEachOnce c.self.view_is (each_once (map arc_value c.self.inside.classes.now) c.self.invariant)
