use Rattle.std.proofs.Common.{length}
use Rattle.graphs.proofs.components.Search.close.Given as goal

abbrev pub decreases-loop-member : goal.decreases-loop-member
decreases-loop-member l = length l.self.open.items
