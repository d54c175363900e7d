use Rattle.std.proofs.Common.{◌≡◌, take, false}
use Rattle.offers.specs.Rivals.{has_under}
use Rattle.offers.specs.Views.{scene}
use Rattle.offers.proofs.placed.Placed.has_under.Given as goal

abbrev pub invariant-loop-i : goal.invariant-loop-i
invariant-loop-i l = has_under (scene l.view) (take l.i l.types) l.high ≡ false
