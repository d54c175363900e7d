-- Sets of numbers as strictly rising lists; a context of lambdas as the set of its types.
use Rattle.std.specs.Prelude.{ℕ, ◌<◌, ⊤, Bool, nat_lt, ◌==◌, cond, List, [], ◌∷◌}
use Rattle.std.specs.List.{list_any, AllByRecursion}
use Rattle.terms.specs.Typing.{joined}

-- whether the number stands in the list
abbrev pub has : ℕ → List ℕ → Bool
has a xs = list_any (λ x. a == x) xs

-- each number is below all that follow it
abbrev pub IsRising : List ℕ → Type 0
IsRising [] = ⊤
IsRising (x ∷ xs) = AllByRecursion (λ y. x < y) xs × IsRising xs

-- a number put at its place in a rising list, where it doesn't stand there yet
abbrev pub put : ℕ → List ℕ → List ℕ
put x [] = x ∷ []
put x (y ∷ ys) = cond (nat_lt x y) (x ∷ y ∷ ys) (cond (x == y) (y ∷ ys) (y ∷ put x ys))

-- a set with more numbers
abbrev pub joined_with : List ℕ → List ℕ → List ℕ
joined_with set [] = set
joined_with set (x ∷ xs) = joined_with (put x set) xs

-- the set of the numbers of a list
abbrev pub set_of : List ℕ → List ℕ
set_of xs = joined_with [] xs

-- the types of the variables that the lambdas around a place bind
abbrev pub types_bound : List (List ℕ) → List ℕ
types_bound ctx = set_of (joined ctx)
