use Rattle.std.proofs.Common.{◌≡◌, take, false}
use Rattle.std.specs.List.{list_any}
use Rattle.offers.specs.Functional.{is_giver}
use Rattle.offers.specs.Views.{scene}
use Rattle.offers.proofs.functional.is_given.Given as goal

abbrev pub invariant-loop-i : goal.invariant-loop-i
invariant-loop-i l = list_any (is_giver (scene l.view) l.owner l.method) (take l.i l.faces) ≡ false
