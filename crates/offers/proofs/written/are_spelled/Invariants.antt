use Rattle.std.proofs.Common.{◌≡◌, take, true}
use Rattle.std.specs.Prelude.{is_some}
use Rattle.std.specs.List.{list_all}
use Rattle.offers.specs.Spellings.{spelling}
use Rattle.offers.specs.Views.{scene}
use Rattle.offers.proofs.written.are_spelled.Given as goal

abbrev pub invariant-loop-kind : goal.invariant-loop-kind
invariant-loop-kind l = list_all (λ p. is_some (spelling (scene l.spellings) p)) (take l.kind-index l.kinds) ≡ true
