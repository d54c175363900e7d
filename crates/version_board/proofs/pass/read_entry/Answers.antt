use Rattle.version_board.proofs.Keeps.{read_keeps}
use Rattle.version_board.proofs.pass.read_entry.Goals as goal

pub enter_as-requires : goal.enter_as-requires
enter_as-requires g c = read_keeps _ _ _
