use Rattle.java_units.specs.Signs.{reserved}
use Rattle.java_units.proofs.words.is_reserved.Goals as goal

pub returns : goal.returns
unfolding reserved
returns c = record { value = c.has_by_length.ensures }
