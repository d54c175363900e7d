use Rattle.java_tokens.proofs.WordLaws.{word_laws}
use Rattle.java_tokens.proofs.laws.word_laws.Goals as goal

pub returns : goal.returns
returns c = record { laws = word_laws }
