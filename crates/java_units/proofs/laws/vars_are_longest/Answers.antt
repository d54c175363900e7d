use Rattle.java_units.proofs.VarGrammar.{vars_are_longest}
use Rattle.java_units.proofs.laws.vars_are_longest.Goals as goal

pub returns : goal.returns
returns c = record { law = vars_are_longest }
