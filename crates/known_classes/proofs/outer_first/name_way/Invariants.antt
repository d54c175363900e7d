use Rattle.std.proofs.Common.{◌≤◌, length}
use Rattle.known_classes.specs.NameTables.{AreNamed}
use Rattle.known_classes.proofs.outer_first.name_way.Given as goal

abbrev pub invariant-loop-left : goal.invariant-loop-left
invariant-loop-left g l = record {
  left : l.left ≤ length l.way;
  named : AreNamed (g.L.ClassList.listed l.classes) (length (g.L.ClassList.listed l.classes)) l.named.items;
}

abbrev pub decreases-loop-left : goal.decreases-loop-left
decreases-loop-left g l = l.left
