use Rattle.number_places.proofs.NumberPlaces.{empty-more, length-pushed}
use Rattle.number_places.proofs.places.no_places.Goals as goal

pub loop-i-preserved : goal.loop-i-preserved
loop-i-preserved c = record {
  as_many = length-pushed _ _ _ _ c.in_ok-push.ensures.items c.loop-i.invariant.as_many;
  empty = empty-more (λ v. v.items) _ _ _ _ c.in_ok-push.ensures.items c.in_ok-with_capacity.ensures.items c.loop-i.invariant.as_many c.loop-i.invariant.empty;
}
