use Rattle.std.proofs.Common.{◌≡◌, take}
use Rattle.std.specs.List.{flat_map}
use Rattle.java_units.specs.Signs.{seens}
use Rattle.java_units.specs.Units.{import_in}
use Rattle.java_units.proofs.unit.imports_of.Given as goal

abbrev pub invariant-loop-i : goal.invariant-loop-i
invariant-loop-i l = l.all ≡ flat_map import_in (take l.i (seens l.places))
