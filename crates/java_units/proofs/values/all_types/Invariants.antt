use Rattle.std.proofs.Common.{◌≡◌, take, map}
use Rattle.java_units.specs.Signs.{seens}
use Rattle.java_units.specs.Values.{type_text}
use Rattle.java_units.proofs.values.all_types.Given as goal

abbrev pub invariant-loop-i : goal.invariant-loop-i
invariant-loop-i l = l.all ≡ map (type_text 0) (take l.i (seens l.places))
