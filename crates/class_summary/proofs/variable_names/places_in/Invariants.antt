use Rattle.std.specs.BTreeMap.{get_by_text}
use Rattle.class_summary.proofs.Bounds.{GiveBoundsFrom}
use Rattle.class_summary.proofs.variable_names.places_in.Given as goal

abbrev pub invariant-loop-left : goal.invariant-loop-left
invariant-loop-left l = GiveBoundsFrom l.vars l.left (get_by_text l.places)

abbrev pub decreases-loop-left : goal.decreases-loop-left
decreases-loop-left l = l.left
