use Rattle.std.proofs.Common.{◌≤◌, ◌+◌, ◌-◌, map, length}
use Rattle.std.specs.Arc.{arc_value}
use Rattle.decl_index.proofs.Merges.{Goes}
use Rattle.decl_index.proofs.merge.merged.Given as goal

abbrev pub invariant-loop-new : goal.invariant-loop-new
invariant-loop-new l = record {
  old : l.old ≤ length l.older;
  new : l.new ≤ length l.newer;
  goes : Goes (map arc_value l.older) (map arc_value l.newer) (map arc_value l.all.items) l.old l.new;
}

abbrev pub decreases-loop-new : goal.decreases-loop-new
decreases-loop-new l = (length l.older - l.old) + (length l.newer - l.new)
