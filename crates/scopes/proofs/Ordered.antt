-- Subtypes are a strict order.
use Rattle.subtyping.proofs.Laws.{subtype-never, subtype-then, false-unless}
use Rattle.offers.specs.Scenes.{Scene}
use Rattle.offers.specs.Offers.{IsOrder}
use Rattle.scopes.specs.Validity.{IsOrdered}

pub ordered : (v : Scene) → IsOrder v → IsOrdered v
ordered v h = record {
  never = λ a. false-unless (v.below a a) (λ e. subtype-never v.known a (h.sound a a e));
  through = λ a b c e f. h.complete a c (subtype-then v.known a b c (h.sound a b e) (h.sound b c f));
}
