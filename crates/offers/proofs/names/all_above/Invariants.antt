use Rattle.std.proofs.Common.{◌≡◌, take}
use Rattle.std.specs.List.{flat_map}
use Rattle.offers.specs.Omissions.{names_above}
use Rattle.offers.specs.Views.{scene}
use Rattle.offers.proofs.names.all_above.Given as goal

abbrev pub invariant-loop-place : goal.invariant-loop-place
invariant-loop-place l = l.names ≡ flat_map (names_above (scene l.view)) (take l.place l.view.known)
