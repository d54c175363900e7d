use Rattle.std.proofs.Common.{◌≡◌, ◌≤◌, length, drop, None}
use Rattle.offers.specs.Spellings.{shortest}
use Rattle.offers.specs.Views.{scene}
use Rattle.offers.proofs.spelling.shortest.Given as goal

abbrev pub invariant-loop-left : goal.invariant-loop-left
invariant-loop-left l = (shortest (scene l.view) l.name (drop l.left l.parts) ≡ None) × (l.left ≤ length l.parts)

abbrev pub decreases-loop-left : goal.decreases-loop-left
decreases-loop-left l = l.left
