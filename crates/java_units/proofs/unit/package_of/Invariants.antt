use Rattle.std.proofs.Common.{◌≡◌, drop}
use Rattle.java_units.specs.Signs.{seens}
use Rattle.java_units.specs.Units.{package_of}
use Rattle.java_units.proofs.unit.package_of.Given as goal

abbrev pub invariant-loop-i : goal.invariant-loop-i
invariant-loop-i l = package_of (seens l.places) ≡ package_of (drop l.i (seens l.places))
