use Rattle.known_classes.proofs.Sets.{set-names}
use Rattle.known_classes.proofs.Merges.{no-cycle}
use Rattle.known_classes.proofs.laws.merges_of_names.Goals as goal

pub returns : goal.returns
returns c = record { names = set-names; no_cycle = no-cycle }
