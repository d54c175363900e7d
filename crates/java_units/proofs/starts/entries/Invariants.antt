use Rattle.std.proofs.Common.{◌≡◌, ◌∷◌, take, drop, map}
use Rattle.java_units.specs.Signs.{seen, seens}
use Rattle.java_units.proofs.starts.entries.Given as goal

abbrev pub invariant-loop-i : goal.invariant-loop-i
invariant-loop-i l = seens l.all.items ≡ seen l.lexemes ∷ map (drop 1) (take l.i (seens l.places))
