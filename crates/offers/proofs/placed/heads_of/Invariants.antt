use Rattle.std.proofs.Common.{take}
use Rattle.offers.specs.Placing.{AreHeads}
use Rattle.offers.proofs.placed.heads_of.Given as goal

abbrev pub invariant-loop-i : goal.invariant-loop-i
invariant-loop-i l = AreHeads l.view (take l.i l.types) l.heads.items
