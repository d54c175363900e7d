-- The variables at a numbered place, and all numbers that it may add to a front.
use Rattle.std.specs.Prelude.{ℕ, zero, suc, ◌*◌, List, [], ◌∷◌, ◌++◌, length}
use Rattle.terms.specs.Typing.{joined}
use Rattle.reconstruction.specs.Ways.{ways_at}
use Rattle.reconstruction.specs.NumberedPlaces.{rows_at}
use Rattle.reconstruction.specs.declared.numbered_place.NumberedPlace.{NumberedPlace}
use Rattle.reconstruction.specs.declared.tables.Tables.{Tables}

-- the numbers of the first variables
unfoldable pub variables : ℕ → List ℕ
variables zero = []
variables (suc n) = variables n ++ (2 * n) ∷ []

-- how many variables are bound at a numbered place
abbrev pub bound_at : Tables → NumberedPlace → ℕ
bound_at t p = length (joined (rows_at t.env p.lambdas))

-- the variables, and then the declarations
abbrev pub numbers_at : Tables → NumberedPlace → List ℕ
numbers_at t p = variables (bound_at t p) ++ ways_at t.env t.edges p.state
