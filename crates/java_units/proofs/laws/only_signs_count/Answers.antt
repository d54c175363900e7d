use Rattle.java_units.proofs.OnlySigns.{only_signs}
use Rattle.java_units.proofs.laws.only_signs_count.Goals as goal

pub returns : goal.returns
returns c = record { law = only_signs }
