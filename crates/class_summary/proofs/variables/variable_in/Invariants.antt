use Rattle.std.proofs.Common.{◌≡◌, drop}
use Rattle.class_summary.specs.Variables.{variable_in}
use Rattle.class_summary.proofs.variables.variable_in.Given as goal

abbrev pub invariant-loop-i : goal.invariant-loop-i
invariant-loop-i l = variable_in l.name l.scopes ≡ variable_in l.name (drop l.i l.scopes)
