use Rattle.version_board.proofs.Journals.{begins}
use Rattle.version_board.proofs.snapshot.Snapshot.empty.Goals as goal

pub returns : goal.returns
returns c = record { version = begins c.new.result c.in_ok-empty.field-0 c.new.ensures.empty c.in_ok-empty.ensures.state }
