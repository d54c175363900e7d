use Rattle.std.proofs.Common.{◌≡◌, take, false}
use Rattle.std.specs.List.{list_any}
use Rattle.offers.specs.Omissions.{overrides}
use Rattle.offers.specs.Grouping.{at_place}
use Rattle.offers.specs.Views.{scene}
use Rattle.offers.proofs.overrides.is_over_any.Given as goal

abbrev pub invariant-loop-place : goal.invariant-loop-place
invariant-loop-place l = list_any (at_place (overrides (scene l.view) l.member) l.members.members) (take l.place-index l.places) ≡ false
