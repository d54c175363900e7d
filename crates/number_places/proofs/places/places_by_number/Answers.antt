use Rattle.std.proofs.Common.{refl, sym, rules, ◌∙◌}
use Rattle.std.proofs.lemmas.Option.{slice_get-get_or}
use Rattle.number_places.proofs.NumberPlaces.{places-more, length-grown, length-mapped}
use Rattle.number_places.proofs.places.places_by_number.Goals as goal

pub loop-i-preserved : goal.loop-i-preserved
loop-i-preserved c = record {
  as_many = sym (length-mapped (λ v. v.items) _) ∙ length-grown _ _ _ _ _ c.in_ok-add_place.ensures.added (length-mapped (λ v. v.items) _ ∙ c.loop-i.invariant.as_many);
  each = places-more _ _ _ c.loop-i.i _ _ _ (search rules) refl (length-mapped (λ v. v.items) _ ∙ c.loop-i.invariant.as_many) (c.requires.in_range c.loop-i.i _ (slice_get-get_or _ c.loop-i.i _ (search rules))) c.in_ok-add_place.ensures.added c.loop-i.invariant.each;
}
