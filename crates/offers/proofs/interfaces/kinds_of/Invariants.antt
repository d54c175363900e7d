use Rattle.std.proofs.Common.{◌≡◌, map, take}
use Rattle.offers.specs.Scenes.{of_class}
use Rattle.offers.proofs.interfaces.kinds_of.Given as goal

abbrev pub invariant-loop-class : goal.invariant-loop-class
invariant-loop-class l = l.all ≡ map (λ c. of_class c.name) (take l.class-index l.classes)
