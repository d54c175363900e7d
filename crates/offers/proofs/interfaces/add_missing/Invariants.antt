use Rattle.std.proofs.Common.{◌≡◌, ◌++◌, take}
use Rattle.std.specs.List.{filter}
use Rattle.offers.specs.Missing.{is_missing}
use Rattle.offers.specs.Views.{scene}
use Rattle.offers.proofs.interfaces.add_missing.Given as goal

abbrev pub invariant-loop-name : goal.invariant-loop-name
invariant-loop-name l = l.all ≡ l.initial.all ++ filter (is_missing (scene l.view)) (take l.name-index l.names)
