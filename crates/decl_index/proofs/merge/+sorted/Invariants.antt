use Rattle.std.proofs.Common.{length}
use Rattle.decl_index.proofs.merge.+sorted.Given as goal

abbrev pub decreases-sorted : goal.decreases-sorted
decreases-sorted l = length l.puts.now
