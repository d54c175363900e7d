-- The pairs as a table: for each type the types that it is below, in rising order.
use Rattle.std.specs.Prelude.{◌≡◌, ℕ, Bool, ◌==◌, List, [], ◌∷◌, get_or, length, Option, None}
use Rattle.std.specs.List.{list_any}
use Rattle.std.specs.List.Sorted.{IsNonDecreasing}
use Rattle.terms.specs.Typing.{is_pair}
use Rattle.terms.specs.Faults.{or_then, unless, first_below}
use Rattle.terms.specs.declared.fault.EnvFault.{EnvFault}
use Rattle.terms.specs.declared.fault.EnvFault.TheVariants.{NotTransitive}

-- whether the number stands in the row
unfoldable pub has : ℕ → List ℕ → Bool
has b row = list_any (λ c. c == b) row

-- the row of a type, empty past the end
abbrev pub row_at : List (List ℕ) → ℕ → List ℕ
row_at rows a = get_or rows a []

-- the table holds just the pairs, and its rows rise
pub record IsTable (pairs : List (ℕ × ℕ)) (rows : List (List ℕ)) : Type 0 where
  pub holds : (a b : ℕ) → has b (row_at rows a) ≡ is_pair pairs a b
  pub rising : (a : ℕ) → IsNonDecreasing (row_at rows a)

-- the first answer along a list
unfoldable pub first_in : {X : Type 0} → (ℕ → Option X) → List ℕ → Option X
first_in f [] = None
first_in f (b ∷ more) = or_then (f b) (first_in f more)

-- the first c of the row such that (a, c) isn't in the table
unfoldable pub gap_between : List (List ℕ) → ℕ → ℕ → List ℕ → Option EnvFault
gap_between rows a b row = first_in (λ c. unless (has c (row_at rows a)) (NotTransitive a b c)) row

-- the first gap above a through a type of the row
unfoldable pub gap_from : List (List ℕ) → ℕ → List ℕ → Option EnvFault
gap_from rows a row = first_in (λ b. gap_between rows a b (row_at rows b)) row

-- the first gap of the table
unfoldable pub first_gap : List (List ℕ) → Option EnvFault
first_gap rows = first_below (λ a. gap_from rows a (row_at rows a)) (length rows)
