use Rattle.std.proofs.Common.{◌≡◌, drop, []}
use Rattle.java_units.specs.Signs.{seens}
use Rattle.java_units.specs.Units.{parent_of}
use Rattle.java_units.proofs.class.parent_of.Given as goal

abbrev pub invariant-loop-i : goal.invariant-loop-i
invariant-loop-i l = record {
  none : l.all ≡ [];
  rest : parent_of (seens l.places) ≡ parent_of (drop l.i (seens l.places));
}
