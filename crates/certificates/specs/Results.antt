-- What declarations and pairs give.
use Rattle.std.specs.Prelude.{◌≡◌, ℕ, ◌<◌, List, ◌++◌, length, map, slice_get, Some}
use Rattle.terms.specs.declared.parts.Decl.{Decl}
use Rattle.terms.specs.declared.parts.Parts.{Parts}
use Rattle.number_places.specs.Places.{places_of}
use Rattle.succinct.specs.Compression.{of_decl, of_pair}

-- what each source gives: the declarations, and after them the pairs
abbrev pub results_of : Parts → List ℕ
results_of g = map (λ (d : Decl). (of_decl d).result) g.decls ++ map (λ (p : ℕ × ℕ). (of_pair p).result) g.pairs

-- for each type the numbers of the sources that give it
abbrev pub AreByResult : Parts → List (List ℕ) → Type 0
AreByResult g lists = (k : ℕ) → k < length g.types → slice_get lists k ≡ Some (places_of k (results_of g))
