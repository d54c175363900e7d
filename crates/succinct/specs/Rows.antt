-- Lists of numbers that lie one after the other in one list.
use Rattle.std.specs.Prelude.{◌≡◌, ℕ, ◌≤◌, List, [], ◌∷◌, length, slice_range}

-- the rows from a place on, which end at these places
abbrev pub rows_from : ℕ → List ℕ → List ℕ → List (List ℕ)
rows_from from [] flat = []
rows_from from (end ∷ ends) flat = slice_range flat from end ∷ rows_from end ends flat

-- the ends rise, and the last row ends where the list ends
abbrev pub AreCuts : ℕ → List ℕ → List ℕ → Type 0
AreCuts from [] flat = from ≡ length flat
AreCuts from (end ∷ ends) flat = (from ≤ end) × AreCuts end ends flat
