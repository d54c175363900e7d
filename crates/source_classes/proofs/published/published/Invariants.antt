use Rattle.std.proofs.Common.{length}
use Rattle.std.specs.BTreeMap.{get_by_text}
use Rattle.source_classes.proofs.Publishing.{IsPublishing}
use Rattle.source_classes.proofs.published.published.Given as goal

abbrev pub invariant-loop-class : goal.invariant-loop-class
invariant-loop-class l = IsPublishing l.fn.classes l.left l.kept.items (get_by_text l.later)

abbrev pub decreases-loop-class : goal.decreases-loop-class
decreases-loop-class l = length l.left
