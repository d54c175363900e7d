use Rattle.std.proofs.Common.{◌≡◌, ◌++◌, List, length}
use Rattle.offers.specs.Scenes.{sorted}
use Rattle.offers.proofs.key_order.in_order.Given as goal

-- what was taken from the end stands in order
abbrev pub invariant-loop-item : goal.invariant-loop-item
invariant-loop-item g l = (rest : List g.row.T.Denot) × (l.fn.items ≡ l.left ++ rest) × (l.all.items ≡ sorted g.T.Keyed.key_of rest)

abbrev pub decreases-loop-item : goal.decreases-loop-item
decreases-loop-item g l = length l.left
