use Rattle.std.proofs.Common.{◌≡◌, take, true}
use Rattle.offers.specs.Missing.{is_apart}
use Rattle.offers.specs.Views.{scene}
use Rattle.offers.proofs.interfaces.is_apart.Given as goal

abbrev pub invariant-loop-name : goal.invariant-loop-name
invariant-loop-name l = is_apart (scene l.view) l.class (take l.name-index l.names) ≡ true
