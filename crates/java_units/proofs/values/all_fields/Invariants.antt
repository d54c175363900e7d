use Rattle.std.proofs.Common.{◌≡◌, take, map}
use Rattle.java_units.specs.Signs.{seen, seens}
use Rattle.java_units.specs.Values.{field_of}
use Rattle.java_units.proofs.values.all_fields.Given as goal

abbrev pub invariant-loop-i : goal.invariant-loop-i
invariant-loop-i l = l.all ≡ map (field_of l.flags (seen l.lexemes)) (take l.i (seens l.places))
