use Rattle.java_resolve.proofs.OwnTexts.{own_text, never_two}
use Rattle.java_resolve.proofs.laws.resolve_laws.Goals as goal

pub returns : goal.returns
returns c = record { own_text = own_text; never_two = never_two }
