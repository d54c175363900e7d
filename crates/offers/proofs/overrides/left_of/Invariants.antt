use Rattle.std.proofs.Common.{◌≡◌, take, not}
use Rattle.std.specs.List.{list_any, filter}
use Rattle.offers.specs.Omissions.{overrides}
use Rattle.offers.specs.Views.{scene}
use Rattle.offers.proofs.overrides.left_of.Given as goal

abbrev pub invariant-loop-i : goal.invariant-loop-i
invariant-loop-i l = l.all ≡ filter (λ m. not (list_any (overrides (scene l.view) m) l.members.members)) (take l.i l.members.members)
