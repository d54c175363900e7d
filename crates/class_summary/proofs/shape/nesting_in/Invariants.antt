use Rattle.std.proofs.Common.{◌≡◌, drop}
use Rattle.class_summary.specs.Summaries.{nesting_in}
use Rattle.class_summary.proofs.shape.nesting_in.Given as goal

abbrev pub invariant-loop-i : goal.invariant-loop-i
invariant-loop-i l = nesting_in l.name l.rows ≡ nesting_in l.name (drop l.i l.rows)
