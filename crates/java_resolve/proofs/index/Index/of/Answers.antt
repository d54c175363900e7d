use Rattle.std.proofs.Common.{◌≡◌, ◌∙◌, ap, sym, subst, ◌<◌, map, slice_get, Some}
use Rattle.number_places.specs.Places.{places_of}
use Rattle.java_resolve.specs.Index.{with_key}
use Rattle.java_resolve.proofs.Indexing.{places_below, index_is}
use Rattle.java_resolve.proofs.index.Index.of.Goals as goal

pub places_by_number-requires : goal.places_by_number-requires
places_by_number-requires c = record {
  in_range = λ i k e. subst (λ n. k < n) (sym c.len.ensures.len) (places_below c.in_ok-names.names c.as_slice-decls.result.now c.in_ok-places.places.items c.in_ok-places.ensures.right i k (subst (λ z. slice_get z i ≡ Some k) c.as_slice.ensures.value e));
}

pub returns : goal.returns
returns c = record {
  right = λ t.
      index_is c.in_ok-names.names (map (λ l. l.items) c.in_ok-numbers.numbers.items) c.as_slice-decls.result.now c.in_ok-places.places.items c.in_ok-places.ensures.right
      (λ k l. c.in_ok-numbers.ensures.each k (subst (λ n. k < n) (sym c.len.ensures.len) l) ∙ ap (λ z. Some (places_of k z)) c.as_slice.ensures.value) t
      ∙ ap (with_key 0 t) c.as_slice-decls.ensures;
}
