use Rattle.std.proofs.Common.{◌≡◌, suc, take}
use Rattle.class_summary.specs.Variables.{variables}
use Rattle.class_summary.proofs.variables.most_steps.Given as goal

abbrev pub invariant-loop-i : goal.invariant-loop-i
invariant-loop-i l = l.count ≡ suc (variables (take l.i l.scopes))
