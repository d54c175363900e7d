use Rattle.std.proofs.Common.{◌≡◌, map, take}
use Rattle.class_summary.specs.Summaries.{summary_of}
use Rattle.samples.proofs.classes.all_kept.Given as goal

abbrev pub invariant-loop-shape : goal.invariant-loop-shape
invariant-loop-shape l = l.all ≡ map summary_of (take l.shape-index l.shapes)
