use Rattle.std.proofs.Common.{◌≡◌, take}
use Rattle.std.specs.List.{flat_map}
use Rattle.offers.specs.Omissions.{names_around}
use Rattle.offers.specs.Views.{scene}
use Rattle.offers.proofs.names.all_around.Given as goal

abbrev pub invariant-loop-number : goal.invariant-loop-number
invariant-loop-number l = l.names ≡ flat_map (names_around (scene l.view)) (take l.number-index l.number-items)
