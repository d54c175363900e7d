use Rattle.known_classes.specs.NameTables.{AreCanonicalNames}
use Rattle.known_classes.proofs.outer_first.texts_outer_first.Given as goal

abbrev pub invariant-loop-place : goal.invariant-loop-place
invariant-loop-place g l = AreCanonicalNames (g.L.ClassList.listed l.classes) 0 l.place l.texts
