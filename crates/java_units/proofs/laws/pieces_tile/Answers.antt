use Rattle.java_units.proofs.PieceLaws.{tiled}
use Rattle.java_units.proofs.laws.pieces_tile.Goals as goal

pub returns : goal.returns
returns c = record { tile = tiled }
