use Rattle.std.proofs.Common.{◌≡◌, take}
use Rattle.decl_index.proofs.change.copy_counts.Given as goal

abbrev pub invariant-loop-count : goal.invariant-loop-count
invariant-loop-count l = l.copies ≡ take l.count-index l.count-items
