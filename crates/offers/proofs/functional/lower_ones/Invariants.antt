use Rattle.std.proofs.Common.{◌≡◌, map, take}
use Rattle.offers.specs.Scenes.{of_class}
use Rattle.offers.specs.Views.{scene}
use Rattle.offers.proofs.functional.lower_ones.Given as goal

abbrev pub invariant-loop-other : goal.invariant-loop-other
invariant-loop-other l = l.all.items ≡ map (λ d. (scene l.view).below (of_class d.name) (of_class l.owner.name)) (take l.other-index l.faces)
