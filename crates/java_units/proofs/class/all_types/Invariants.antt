use Rattle.std.proofs.Common.{◌≡◌, take}
use Rattle.std.specs.List.{flat_map}
use Rattle.java_units.specs.Words.{texts}
use Rattle.java_units.specs.Signs.{seens}
use Rattle.java_units.specs.Values.{types_of}
use Rattle.java_units.proofs.class.all_types.Given as goal

abbrev pub invariant-loop-i : goal.invariant-loop-i
invariant-loop-i l = l.all ≡ flat_map (types_of (texts l.words)) (take l.i (seens l.places))
