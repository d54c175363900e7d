use Rattle.std.proofs.Common.{◌≡◌, take}
use Rattle.offers.specs.Placing.{IsPlaced}
use Rattle.offers.specs.Rivals.{types_under}
use Rattle.offers.specs.Views.{scene}
use Rattle.offers.proofs.placed.Placed.under.Given as goal

abbrev pub invariant-loop-i : goal.invariant-loop-i
invariant-loop-i l = record {
  types : l.all.types ≡ types_under (scene l.view) (take l.i l.types) l.high;
  placed : IsPlaced l.view l.all;
}
