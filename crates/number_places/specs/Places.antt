-- The places of a number in a list.
use Rattle.std.specs.Prelude.{ℕ, ◌+◌, ◌==◌, cond, List, [], ◌∷◌}

-- the places, counted from i, at which the number stands, in rising order
abbrev pub places_from : ℕ → ℕ → List ℕ → List ℕ
places_from i k [] = []
places_from i k (n ∷ ns) = cond (n == k) (i ∷ places_from (i + 1) k ns) (places_from (i + 1) k ns)

abbrev pub places_of : ℕ → List ℕ → List ℕ
places_of k ns = places_from 0 k ns
