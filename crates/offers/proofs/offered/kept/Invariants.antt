use Rattle.std.proofs.Common.{◌≡◌, take}
use Rattle.std.specs.List.{filter}
use Rattle.offers.specs.Reach.{is_offered}
use Rattle.offers.specs.Views.{scene}
use Rattle.offers.proofs.offered.kept.Given as goal

abbrev pub invariant-loop-place : goal.invariant-loop-place
invariant-loop-place l = l.all ≡ filter (is_offered (scene l.view)) (take l.place l.view.known)
