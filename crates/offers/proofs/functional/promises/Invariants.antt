use Rattle.std.proofs.Common.{◌≡◌, take}
use Rattle.std.specs.List.{filter}
use Rattle.offers.specs.Functional.{is_promise}
use Rattle.offers.specs.Views.{scene}
use Rattle.offers.proofs.functional.promises.Given as goal

abbrev pub invariant-loop-method : goal.invariant-loop-method
invariant-loop-method l = l.all ≡ filter (is_promise (scene l.view) l.faces l.owner) (take l.method-index l.method-items)
