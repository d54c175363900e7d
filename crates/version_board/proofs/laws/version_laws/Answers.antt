use Rattle.version_board.proofs.VersionLaws.{has_version, one_version}
use Rattle.version_board.proofs.WithdrawalLaws.{withdrawals_stay, newest_stands}
use Rattle.version_board.proofs.laws.version_laws.Goals as goal

pub returns : goal.returns
returns c = record { has_version = has_version; one_version = one_version; withdrawals_stay = withdrawals_stay; newest_stands = newest_stands }
