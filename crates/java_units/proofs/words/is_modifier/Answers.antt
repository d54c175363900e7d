use Rattle.java_units.proofs.words.is_modifier.Goals as goal

pub returns : goal.returns
returns c = c.has_by_length.ensures
