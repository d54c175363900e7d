use Rattle.std.proofs.Common.{map, take}
use Rattle.std.specs.Arc.{arc_value}
use Rattle.decl_index.specs.History.{put}
use Rattle.decl_index.specs.Places.{Leaves}
use Rattle.decl_index.proofs.sorted_classes.put_each.Given as goal

abbrev pub invariant-loop-class : goal.invariant-loop-class
invariant-loop-class l = Leaves (map put (take l.class-index l.puts)) (map arc_value l.fn.classes.items) (map arc_value l.classes.items)
