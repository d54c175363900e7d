use Rattle.std.proofs.Common.{◌≡◌, ◌++◌, ◌-◌, length}
use Rattle.known_classes.specs.Known.{canonical, canonical_by}
use Rattle.known_classes.proofs.canonical_text.canonical.Given as goal

abbrev pub invariant-loop-step : goal.invariant-loop-step
invariant-loop-step g l = canonical (g.L.ClassList.listed l.known) l.name ≡ canonical_by (length (g.L.ClassList.listed l.known) - l._step) (g.L.ClassList.listed l.known) l.here ++ l.tail
