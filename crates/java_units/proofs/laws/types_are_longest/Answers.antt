use Rattle.java_units.proofs.TypeGrammar.{types_are_longest}
use Rattle.java_units.proofs.laws.types_are_longest.Goals as goal

pub returns : goal.returns
returns c = record { law = types_are_longest }
