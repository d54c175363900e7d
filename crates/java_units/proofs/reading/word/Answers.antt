use Rattle.java_units.specs.Signs.{text_of}
use Rattle.java_units.proofs.reading.word.Goals as goal

pub returns : goal.returns
unfolding text_of
returns c = c.range.ensures.value
