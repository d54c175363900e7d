use Rattle.std.proofs.Common.{◌≡◌, take}
use Rattle.std.specs.List.{flat_map}
use Rattle.java_units.specs.Signs.{seens}
use Rattle.java_units.specs.Members.{fields_in}
use Rattle.java_units.proofs.members.all_fields.Given as goal

abbrev pub invariant-loop-i : goal.invariant-loop-i
invariant-loop-i l = l.all ≡ flat_map (fields_in l.around l.name) (take l.i (seens l.places))
