use Rattle.std.proofs.Common.{take}
use Rattle.offers.specs.Placing.{ArePlaces}
use Rattle.offers.proofs.placed.places_of.Given as goal

abbrev pub invariant-loop-kind : goal.invariant-loop-kind
invariant-loop-kind l = ArePlaces l.view (take l.kind-index l.types) l.places.items
