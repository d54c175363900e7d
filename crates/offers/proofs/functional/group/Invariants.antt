use Rattle.std.proofs.Common.{◌≡◌, take}
use Rattle.std.specs.List.{flat_map}
use Rattle.offers.specs.Functional.{promises}
use Rattle.offers.specs.Views.{scene}
use Rattle.offers.proofs.functional.group.Given as goal

abbrev pub invariant-loop-owner : goal.invariant-loop-owner
invariant-loop-owner l = l.all ≡ flat_map (promises (scene l.view) l.faces) (take l.owner-index l.faces)
