use Rattle.version_board.proofs.Journals.{follows}
use Rattle.version_board.proofs.snapshot.Snapshot.after.Goals as goal

pub returns-clause-version : goal.returns-clause-version
returns-clause-version c = λ history is. follows history c.args.change.now c.args.self.now c.number-number.result c.in_ok-index.index c.in_ok-journal.journal is (c.in_ok-index.ensures.state history is.state) c.number-number.ensures.changes c.in_ok-journal.ensures.added
