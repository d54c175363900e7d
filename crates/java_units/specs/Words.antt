-- Tables of texts.
use Rattle.std.specs.Prelude.{ℕ, suc, Bool, true, ◌&&◌, ◌==◌, List, [], ◌∷◌, ◌++◌, length, map}
use Rattle.std.specs.List.{list_all}
use denote.Ref.{Bor}

-- What some texts hold.
abbrev pub texts : List (Bor (List ℕ)) → List (List ℕ)
texts ws = map (λ w. w.now) ws

-- What some tables hold.
abbrev pub groups_of : List (Bor (List (Bor (List ℕ)))) → List (List (List ℕ))
groups_of gs = map (λ g. texts g.now) gs

-- These tables, end to end.
abbrev pub joined : List (List (List ℕ)) → List (List ℕ)
joined [] = []
joined (g ∷ gs) = g ++ joined gs

-- Whether the first table has texts of n bytes alone, the next one of n + 1, and so on.
abbrev pub are_by_length : ℕ → List (List (List ℕ)) → Bool
are_by_length n [] = true
are_by_length n (g ∷ gs) = list_all (λ w. length w == n) g && are_by_length (suc n) gs
