use Rattle.std.proofs.Common.{◌≡◌, ◌-◌, length}
use Rattle.std.specs.Option.{option_copied}
use Rattle.known_classes.specs.Known.{comes_to, outer_of}
use Rattle.known_classes.proofs.canonical_text.cycles.Given as goal

abbrev pub invariant-loop-step : goal.invariant-loop-step
invariant-loop-step g l = comes_to (length (g.L.ClassList.listed l.known)) (g.L.ClassList.listed l.known) l.name (outer_of (g.L.ClassList.listed l.known) l.name) ≡ comes_to (length (g.L.ClassList.listed l.known) - l._step) (g.L.ClassList.listed l.known) l.name (option_copied l.next)
