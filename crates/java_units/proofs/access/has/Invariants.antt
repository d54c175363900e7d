use Rattle.std.proofs.Common.{◌≡◌, drop}
use Rattle.std.specs.List.{list_any}
use Rattle.java_units.specs.Signs.{seens}
use Rattle.java_units.specs.Forms.{begins}
use Rattle.java_units.proofs.access.has.Given as goal

abbrev pub invariant-loop-i : goal.invariant-loop-i
invariant-loop-i l = list_any (begins l.word) (seens l.places) ≡ list_any (begins l.word) (drop l.i (seens l.places))
