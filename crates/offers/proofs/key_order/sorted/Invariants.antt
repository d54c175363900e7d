use Rattle.std.proofs.Common.{◌≡◌, ◌≤◌, drop, length}
use Rattle.offers.specs.Scenes.{sorted}
use Rattle.offers.proofs.key_order.sorted.Given as goal

abbrev pub invariant-loop-left : goal.invariant-loop-left
invariant-loop-left g l = (l.all.items ≡ sorted g.T.Keyed.key_of (drop l.left l.items)) × (l.left ≤ length l.items)

abbrev pub decreases-loop-left : goal.decreases-loop-left
decreases-loop-left g l = l.left
