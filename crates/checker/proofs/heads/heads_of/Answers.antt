use Rattle.std.proofs.Common.{◌∙◌, ℕ, ap, length, map}
use Rattle.terms.specs.declared.parts.Decl.{Decl}
use Rattle.checker.proofs.Lookups.{results_known, uppers_known}
use Rattle.checker.proofs.heads.heads_of.Goals as goal

pub places_by_number-requires : goal.places_by_number-requires
places_by_number-requires c = record {
  in_range = results_known c.parts-parts.result.now c.parts-parts.ensures.valid c.as_slice-3.result.now (length c.as_slice-types.result.now) (ap length c.as_slice-types.ensures)
      (c.as_slice-3.ensures.value ∙ c.in_ok-results.ensures ∙ ap (map (λ (d : Decl). d.result)) c.as_slice.ensures);
}

pub places_by_number-requires-2 : goal.places_by_number-requires-2
places_by_number-requires-2 c = record {
  in_range = uppers_known c.parts-parts.result.now c.parts-parts.ensures.valid c.as_slice-4.result.now (length c.as_slice-types.result.now) (ap length c.as_slice-types.ensures)
      (c.as_slice-4.ensures.value ∙ c.in_ok-uppers.ensures ∙ ap (map (λ (p : ℕ × ℕ). p.1)) c.as_slice-2.ensures);
}
