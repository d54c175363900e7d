use Rattle.std.proofs.Common.{◌∙◌}
use Rattle.version_board.proofs.Journals.{first-of}
use Rattle.version_board.proofs.snapshot.Snapshot.withdrawn.Goals as goal

pub returns : goal.returns
returns c = record { first = λ history is. c.first_beyond.ensures.first ∙ first-of history c.args.self.now.journal.withdrawals c.args.version is.withdrawals }
