use Rattle.class_summary.specs.VariableEnds.{IsClosed}
use Rattle.class_summary.proofs.ends.open_place.Given as goal

abbrev pub invariant-loop-place : goal.invariant-loop-place
invariant-loop-place l = IsClosed l.scopes l.own l.place
