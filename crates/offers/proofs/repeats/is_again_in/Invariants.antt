use Rattle.std.proofs.Common.{◌≡◌, take, false}
use Rattle.std.specs.List.{list_any}
use Rattle.offers.specs.Omissions.{is_again}
use Rattle.offers.specs.Grouping.{at_place}
use Rattle.offers.proofs.repeats.is_again_in.Given as goal

abbrev pub invariant-loop-place : goal.invariant-loop-place
invariant-loop-place l = list_any (at_place (is_again l.member) l.kept) (take l.place-index l.places) ≡ false
