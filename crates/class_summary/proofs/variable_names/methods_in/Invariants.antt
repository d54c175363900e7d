use Rattle.std.proofs.Common.{◌≡◌, map, take}
use Rattle.class_summary.specs.VariableTables.{variables_of}
use Rattle.class_summary.proofs.variable_names.methods_in.Given as goal

abbrev pub invariant-loop-i : goal.invariant-loop-i
invariant-loop-i l = l.all.items ≡ map variables_of (take l.i l.methods)
