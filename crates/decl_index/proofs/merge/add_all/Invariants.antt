use Rattle.std.proofs.Common.{◌≡◌, ◌++◌, map, take}
use Rattle.std.specs.Arc.{arc_value}
use Rattle.decl_index.proofs.merge.add_all.Given as goal

abbrev pub invariant-loop-class : goal.invariant-loop-class
invariant-loop-class l = map arc_value l.all.items ≡ map arc_value l.fn.all.items ++ map arc_value (take l.class-index l.classes)
