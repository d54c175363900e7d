use Rattle.std.proofs.Common.{◌≡◌, List, ℕ, length, slice_get, sym, ap, subst, ◌∙◌, arith}
use Rattle.terms.specs.Faults.{IsValid}
use Rattle.terms.specs.declared.parts.Parts.{Parts}
use Rattle.certificates.proofs.Steps.{results-low}
use Rattle.certificates.proofs.tables.places_of_results.Goals as goal

pub places_by_number-requires : goal.places_by_number-requires
places_by_number-requires c = record {
  in_range = λ i k at. (
      let valid : IsValid c.args.env.now = subst (λ g. IsValid g) c.parts-parts.ensures.value c.parts-parts.ensures.valid in
      let low = results-low c.args.env.now valid i k (ap (λ (l : List ℕ). slice_get l i) (sym c.requires.results) ∙ at) in
      let many : length c.as_slice.result.now ≡ length c.args.env.now.types = ap length c.as_slice.ensures ∙ ap (λ (g : Parts). length g.types) c.parts-parts.ensures.value in
      omega (arith, low, many));
}
