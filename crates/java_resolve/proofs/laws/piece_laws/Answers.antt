use Rattle.java_resolve.proofs.PieceTexts.{shape_text}
use Rattle.java_resolve.proofs.laws.piece_laws.Goals as goal

pub returns : goal.returns
returns c = record { text = shape_text }
