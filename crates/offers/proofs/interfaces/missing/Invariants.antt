use Rattle.std.proofs.Common.{◌≡◌, take}
use Rattle.std.specs.List.{flat_map}
use Rattle.offers.specs.Missing.{missing_in}
use Rattle.offers.specs.Views.{scene}
use Rattle.offers.proofs.interfaces.missing.Given as goal

abbrev pub invariant-loop-place : goal.invariant-loop-place
invariant-loop-place l = l.all ≡ flat_map (missing_in (scene l.view)) (take l.place l.view.known)
