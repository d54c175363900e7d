use Rattle.std.proofs.Common.{◌≡◌, map, take}
use Rattle.std.specs.Arc.{arc_value}
use Rattle.std.specs.BTreeSet.{contains_text}
use Rattle.decl_index.specs.Merging.{others}
use Rattle.decl_index.proofs.merge.without.Given as goal

abbrev pub invariant-loop-class : goal.invariant-loop-class
invariant-loop-class l = map arc_value l.all.items ≡ others (contains_text l.names) (map arc_value (take l.class-index l.classes))
