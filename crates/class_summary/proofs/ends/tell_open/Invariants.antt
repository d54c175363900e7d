use Rattle.class_summary.specs.VariableEnds.{AreTold}
use Rattle.class_summary.proofs.ends.tell_open.Given as goal

abbrev pub invariant-loop-told : goal.invariant-loop-told
invariant-loop-told l = AreTold l.scopes l.own.items
