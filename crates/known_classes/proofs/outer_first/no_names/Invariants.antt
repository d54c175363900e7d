use Rattle.known_classes.specs.NameTables.{AreNamed}
use Rattle.known_classes.proofs.outer_first.no_names.Given as goal

abbrev pub invariant-loop-place : goal.invariant-loop-place
invariant-loop-place g l = AreNamed (g.L.ClassList.listed l.classes) l._place l.named.items
