use Rattle.java_units.proofs.BracketLaws.{brackets_match}
use Rattle.java_units.proofs.laws.brackets_match.Goals as goal

pub returns : goal.returns
returns c = record { law = brackets_match }
