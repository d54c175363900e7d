use Rattle.number_places.proofs.NumberPlaces.{grows_at}
use Rattle.number_places.proofs.places.add_place.Goals as goal

pub returns : goal.returns
returns c = record { added = grows_at (λ v. v.items) _ _ _ c.index_mut.result.now _ c.requires.in_range c.index_mut.ensures.value c.in_ok-push.ensures.items }
