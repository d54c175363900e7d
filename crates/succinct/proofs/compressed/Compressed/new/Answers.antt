use Rattle.std.proofs.Common.{◌<◌, sym, ap, subst, ◌∙◌, slice_get}
use Rattle.succinct.proofs.Needs.{distinct_from, numbers-in_range, need-refl, kind-refl, numbered-same}
use Rattle.succinct.proofs.Wants.{wants-same}
use Rattle.number_places.proofs.NumberPlaces.{length-mapped, each-same}
use Rattle.succinct.proofs.compressed.Compressed.new.Goals as goal

pub places_by_number-requires : goal.places_by_number-requires
places_by_number-requires c = record {
  in_range = λ i k at.
      subst (λ n. k < n) (sym c.len-count.ensures.len) (numbers-in_range _ _ _ _ c.in_ok-needs.ensures.numbered i k (ap (λ l. slice_get l i) (sym c.as_slice.ensures) ∙ at));
}

pub returns-clause-compressed : goal.returns-clause-compressed
returns-clause-compressed c = record {
  distinct_needs = distinct_from _ need-refl _ c.len.ensures.unique;
  distinct_kinds = distinct_from _ kind-refl _ c.len-count.ensures.unique;
  of_sources = numbered-same _ _ _ _ _ c.parts.ensures.value c.in_ok-needs.ensures.numbered;
  listed = length-mapped (λ v. v.items) _ ∙ c.in_ok-selected.ensures.as_many ∙ c.len-count.ensures.len;
  wanted_of_each = wants-same _ _ _ _ c.parts.ensures.value c.in_ok-needs.ensures.wants;
  list_of_each = each-same _ _ _ _ _ c.len-count.ensures.len c.as_slice.ensures c.in_ok-selected.ensures.each;
}
