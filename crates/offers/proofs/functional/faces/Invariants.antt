use Rattle.std.proofs.Common.{◌≡◌, take}
use Rattle.std.specs.List.{flat_map}
use Rattle.offers.specs.Functional.{method_in, faces_by}
use Rattle.offers.specs.Views.{scene}
use Rattle.offers.proofs.functional.faces.Given as goal

abbrev pub invariant-loop-class : goal.invariant-loop-class
invariant-loop-class l = l.all ≡ flat_map (λ c. faces_by c.name (method_in (scene l.view) c)) (take l.class-index l.classes)
