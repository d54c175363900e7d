use Rattle.interleavings.proofs.Clients.{every_interleaving}
use Rattle.interleavings.proofs.Publications.{every_history, every_withdrawal}
use Rattle.interleavings.proofs.laws.interleavings.Goals as goal

pub returns : goal.returns
returns c = record { served = every_interleaving; allowed = every_history; barred = every_withdrawal }
