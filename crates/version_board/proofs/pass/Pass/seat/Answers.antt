use Rattle.version_board.proofs.Keeps.{admits}
use Rattle.version_board.proofs.pass.Pass.seat.Goals as goal

pub reader-requires : goal.reader-requires
reader-requires g c = admits _
