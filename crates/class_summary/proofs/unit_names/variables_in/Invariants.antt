use Rattle.std.proofs.Common.{◌≡◌, take}
use Rattle.class_summary.proofs.unit_names.variables_in.Given as goal

abbrev pub invariant-loop-i : goal.invariant-loop-i
invariant-loop-i l = l.variables.items ≡ take l.i l.classes
