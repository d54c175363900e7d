use Rattle.known_classes.specs.NameTables.{AreCanonicalNames, IsClosedBelow}
use Rattle.known_classes.proofs.canonical_tables.texts_in_order.Given as goal

abbrev pub invariant-loop-place : goal.invariant-loop-place
invariant-loop-place g l = record {
  names : AreCanonicalNames (g.L.ClassList.listed l.classes) l.from l.place l.texts;
  closed : IsClosedBelow (g.L.ClassList.listed l.classes) l.place;
}
