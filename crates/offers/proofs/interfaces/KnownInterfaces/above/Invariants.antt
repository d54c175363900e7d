use Rattle.std.proofs.Common.{◌≡◌, take}
use Rattle.std.specs.List.{filter}
use Rattle.offers.specs.Functional.{is_face}
use Rattle.offers.specs.Views.{scene}
use Rattle.offers.proofs.interfaces.KnownInterfaces.above.Given as goal

abbrev pub invariant-loop-i : goal.invariant-loop-i
invariant-loop-i l = l.all ≡ filter (is_face (scene l.view) l.class) (take l.i l.self.classes)
