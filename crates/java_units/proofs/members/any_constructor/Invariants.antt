use Rattle.std.proofs.Common.{◌≡◌, drop}
use Rattle.std.specs.List.{list_any}
use Rattle.java_units.specs.Signs.{seens}
use Rattle.java_units.specs.Members.{has_constructor}
use Rattle.java_units.proofs.members.any_constructor.Given as goal

abbrev pub invariant-loop-i : goal.invariant-loop-i
invariant-loop-i l = list_any (has_constructor l.name) (seens l.places) ≡ list_any (has_constructor l.name) (drop l.i (seens l.places))
