use Rattle.version_board.proofs.Keeps.{starts}
use Rattle.version_board.proofs.writing.make_writer.Goals as goal

pub new-requires-clause-rule : goal.new-requires-clause-rule
new-requires-clause-rule g c = starts _ _ c.requires.first
