use Rattle.std.proofs.Common.{◌≡◌, take, map}
use Rattle.java_units.specs.Signs.{seens}
use Rattle.java_units.specs.Values.{var_of}
use Rattle.java_units.proofs.values.all_vars.Given as goal

abbrev pub invariant-loop-i : goal.invariant-loop-i
invariant-loop-i l = l.all ≡ map var_of (take l.i (seens l.places))
