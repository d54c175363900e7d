use Rattle.std.proofs.Common.{◌≡◌, reverse}
use Rattle.java_units.specs.Signs.{seen}
use Rattle.java_bodies.specs.Openers.{gathered, opener_alone, open_at}
use Rattle.java_bodies.proofs.openers.openers.Given as goal

abbrev pub invariant-loop-i : goal.invariant-loop-i
invariant-loop-i l = record {
  held : reverse l.inner.items ≡ open_at (seen l.lexemes) l.i;
  made : l.all.items ≡ gathered (opener_alone (seen l.lexemes)) l.i;
}
