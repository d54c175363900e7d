use Rattle.std.proofs.Common.{ap}
use Rattle.version_board.proofs.Keeps.{shows_again}
use Rattle.version_board.proofs.writing.make_room.Goals as goal

pub show-requires : goal.show-requires
show-requires g c = shows_again _ _ _ _ _ (ap (λ d. d.shown.value) c.in-Ok.ensures.desk) c.requires.again c.requires.none c.in-Ok.ensures.pending
