use Rattle.std.proofs.Common.{◌≡◌, take}
use Rattle.std.specs.List.{flat_map}
use Rattle.offers.specs.Reach.{package_by}
use Rattle.offers.proofs.reach.starred_packages.Given as goal

abbrev pub invariant-loop-import : goal.invariant-loop-import
invariant-loop-import l = l.names ≡ flat_map package_by (take l.import-index l.import-items)
