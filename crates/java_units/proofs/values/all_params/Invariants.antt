use Rattle.std.proofs.Common.{◌≡◌, take}
use Rattle.std.specs.List.{flat_map}
use Rattle.java_units.specs.Signs.{seens}
use Rattle.java_units.specs.Values.{kept, param_of}
use Rattle.java_units.proofs.values.all_params.Given as goal

abbrev pub invariant-loop-i : goal.invariant-loop-i
invariant-loop-i l = l.all ≡ flat_map (λ x. kept (param_of x)) (take l.i (seens l.places))
