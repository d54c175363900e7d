use Rattle.std.proofs.Common.{map, take}
use Rattle.std.specs.Arc.{arc_value}
use Rattle.decl_index.specs.History.{remove}
use Rattle.decl_index.specs.Places.{Leaves}
use Rattle.decl_index.proofs.sorted_classes.take_each.Given as goal

abbrev pub invariant-loop-name : goal.invariant-loop-name
invariant-loop-name l = Leaves (map remove (take l.name-index l.names)) (map arc_value l.fn.classes.items) (map arc_value l.classes.items)
