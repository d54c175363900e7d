use Rattle.version_board.proofs.Keeps.{look_keeps}
use Rattle.version_board.proofs.pass.look_entry.Goals as goal

pub enter_as-requires : goal.enter_as-requires
enter_as-requires g c = look_keeps _ _ _
