use Rattle.std.proofs.Common.{length, not, filter}
use Rattle.source_classes.specs.SourceClasses.{is_private}
use Rattle.source_classes.proofs.Backwards.{IsReadBack}
use Rattle.source_classes.proofs.private.others.Given as goal

abbrev pub invariant-loop-member : goal.invariant-loop-member
invariant-loop-member g l = IsReadBack (filter (λ m. not (is_private (g.M.Member.flags_of m)))) l.fn.members l.left l.kept.items

abbrev pub decreases-loop-member : goal.decreases-loop-member
decreases-loop-member g l = length l.left
