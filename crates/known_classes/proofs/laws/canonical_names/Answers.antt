use Rattle.known_classes.proofs.CanonicalLaws.{equation}
use Rattle.known_classes.proofs.Leasts.{called-least, nested-least}
use Rattle.known_classes.proofs.laws.canonical_names.Goals as goal

pub returns : goal.returns
returns c = record { equation = equation; least = called-least; nested = nested-least }
