use Rattle.std.proofs.Common.{◌≡◌, take, false}
use Rattle.std.specs.List.{list_any}
use Rattle.offers.specs.Grouping.{at_place}
use Rattle.offers.specs.Rivals.{is_met}
use Rattle.offers.specs.Views.{scene}
use Rattle.offers.proofs.crowds.OwnedMembers.is_met_in.Given as goal

abbrev pub invariant-loop-place : goal.invariant-loop-place
invariant-loop-place l = list_any (at_place (is_met (scene l.view) l.under.types l.member) l.self.members) (take l.place-index l.places) ≡ false
