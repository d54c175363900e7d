use Rattle.std.proofs.Common.{◌≡◌, ◌++◌, map, take}
use Rattle.class_summary.specs.Variables.{class_scope}
use Rattle.class_summary.proofs.variables.with_classes.Given as goal

abbrev pub invariant-loop-i : goal.invariant-loop-i
invariant-loop-i l = l.scopes.items ≡ l.initial.scopes.items ++ map (class_scope l.classes) (take l.i l.numbers)
