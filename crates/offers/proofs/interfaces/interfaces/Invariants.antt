use Rattle.std.proofs.Common.{◌≡◌, take}
use Rattle.std.specs.List.{filter}
use Rattle.offers.specs.Functional.{is_interface}
use Rattle.offers.proofs.interfaces.interfaces.Given as goal

abbrev pub invariant-loop-place : goal.invariant-loop-place
invariant-loop-place l = l.all ≡ filter is_interface (take l.place l.view.known)
