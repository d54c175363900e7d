use Rattle.samples.proofs.OneText.{one-text}
use Rattle.samples.proofs.laws.one_text.Goals as goal

pub returns : goal.returns
returns c = record { law = one-text }
