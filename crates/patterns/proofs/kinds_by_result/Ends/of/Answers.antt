use Rattle.std.proofs.Common.{◌<◌, ap, sym, subst, ◌∙◌, slice_get, refl}
use Rattle.std.proofs.lemmas.Bool.{eq-eqb}
use Rattle.succinct.proofs.Needs.{distinct_from}
use Rattle.patterns.proofs.Tables.{in_range, ends-from}
use Rattle.patterns.proofs.kinds_by_result.Ends.of.Goals as goal

pub places_by_number-requires : goal.places_by_number-requires
places_by_number-requires c = record { in_range = λ i n at. subst (λ m. n < m) (sym c.len.ensures.len) (in_range _ _ _ c.in_ok-numbers.ensures.numbered i n (ap (λ l. slice_get l i) (sym c.as_slice.ensures.value) ∙ at)) }

pub returns : goal.returns
returns c = record { ends = ends-from _ _ _ _ _ _ (distinct_from _ (λ x. eq-eqb x x refl) _ c.len.ensures.unique) c.in_ok-numbers.ensures.numbered c.len.ensures.len c.as_slice.ensures.value c.in_ok-lists.ensures.each }
