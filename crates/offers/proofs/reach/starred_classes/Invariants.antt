use Rattle.std.proofs.Common.{◌≡◌, take}
use Rattle.std.specs.List.{flat_map}
use Rattle.offers.specs.Reach.{class_by}
use Rattle.offers.specs.Views.{scene}
use Rattle.offers.proofs.reach.starred_classes.Given as goal

abbrev pub invariant-loop-import : goal.invariant-loop-import
invariant-loop-import l = l.names ≡ flat_map (class_by (scene l.view)) (take l.import-index l.import-items)
