use Rattle.class_summary.specs.VariableEnds.{AreTold}
use Rattle.class_summary.proofs.ends.tell_all.Given as goal

abbrev pub invariant-loop-i : goal.invariant-loop-i
invariant-loop-i l = AreTold l.scopes l.own.items
