use Rattle.std.proofs.Common.{◌≡◌, All, None}
use Rattle.class_summary.proofs.ends.untold.Given as goal

abbrev pub invariant-loop-variable : goal.invariant-loop-variable
invariant-loop-variable l = All (λ t. t ≡ None) l.told.items
