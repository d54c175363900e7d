use Rattle.std.proofs.Common.{length}
use Rattle.known_classes.specs.NameTables.{AreNamed}
use Rattle.known_classes.proofs.outer_first.names_outer_first.Given as goal

abbrev pub invariant-loop-place : goal.invariant-loop-place
invariant-loop-place g l = AreNamed (g.L.ClassList.listed l.classes) (length (g.L.ClassList.listed l.classes)) l.named.items
