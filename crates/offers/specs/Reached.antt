-- The tables of what a unit's imports bring in reach.
use Rattle.std.specs.Prelude.{◌≡◌}
use Rattle.offers.specs.declared.reach.Reach.{Reach}
use Rattle.offers.specs.Scenes.{Scene}
use Rattle.offers.specs.Reach.{named_classes, starred_packages, starred_classes}

-- The tables are those of the scene.
pub record IsReachOf (v : Scene) (r : Reach) : Type 0 where
  pub named : r.named ≡ named_classes v
  pub packages : r.packages ≡ starred_packages v
  pub classes : r.classes ≡ starred_classes v
