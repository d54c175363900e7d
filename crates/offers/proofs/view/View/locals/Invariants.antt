use Rattle.std.proofs.Common.{◌≡◌, map, take}
use Rattle.offers.specs.Scenes.{denoted}
use Rattle.offers.specs.Views.{scene}
use Rattle.offers.proofs.view.View.locals.Given as goal

abbrev pub invariant-loop-i : goal.invariant-loop-i
invariant-loop-i l = l.all ≡ map (λ v. denoted (scene l.self) v.kind) (take l.i l.self.site.locals)
