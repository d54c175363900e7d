use Rattle.std.proofs.Common.{◌≡◌, take, not}
use Rattle.std.specs.List.{filter}
use Rattle.offers.specs.Omissions.{is_hidden}
use Rattle.offers.specs.Views.{scene}
use Rattle.offers.proofs.hidden.shown_by.Given as goal

abbrev pub invariant-loop-member : goal.invariant-loop-member
invariant-loop-member l = l.all ≡ filter (λ m. not (is_hidden (scene l.spellings) l.names l.fields m)) (take l.member-index l.members)
