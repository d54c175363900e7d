-- The numbers that the edges at a state add to a front.
use Rattle.std.specs.Prelude.{◌≡◌, ℕ, ◌+◌, ◌*◌, ◌<◌, ◌≤◌, ◌==◌, cond, List, [], ◌∷◌, ◌++◌, slice_get, slice_index_or, Option, Some, None}
use Rattle.terms.specs.Count.{count}
use Rattle.terms.specs.Weights.{coercion_weight}
use Rattle.terms.specs.declared.parts.Parts.{Parts}
use Rattle.edges.specs.Edges.{Edge}
use Rattle.reconstruction.specs.Tabled.{IsTurn, numbered_under, place_by_numbers}
use Rattle.reconstruction.specs.Totals.{declared_in, lower_in, lambdas_under}
use Rattle.reconstruction.specs.declared.numbered_place.NumberedPlace.{NumberedPlace}
use Rattle.reconstruction.specs.declared.tables.Tables.{Tables}

-- the edge of a number; where there is none it doesn't matter
abbrev pub edge_at : List Edge → ℕ → Edge
edge_at edges m = slice_index_or edges m (record { state = 0; source = None; weight = 0; tails = [] })

-- the numbers that the edges at a state give, one after the other
unfoldable pub numbers_where : (Edge → List ℕ) → ℕ → List Edge → List ℕ
numbers_where f i [] = []
numbers_where f i (e ∷ es) = cond (e.state == i) (f e) [] ++ numbers_where f i es

abbrev pub numbers_of_head : Option ℕ → List ℕ
numbers_of_head None = []
numbers_of_head (Some k) = (2 * k + 1) ∷ []

-- the edge of a declaration adds its number
abbrev pub head_numbers : Parts → Edge → List ℕ
head_numbers g e = numbers_of_head (declared_in g e.source)

abbrev pub heads_at : Parts → List Edge → ℕ → List ℕ
heads_at g edges i = numbers_where (head_numbers g) i edges

-- under a coercion, the heads of the lower type
abbrev pub way_numbers_by : Parts → List Edge → Edge → Option ℕ → List ℕ
way_numbers_by g edges e None = head_numbers g e
way_numbers_by g edges e (Some lower) = heads_at g edges lower

abbrev pub way_numbers : Parts → List Edge → Edge → List ℕ
way_numbers g edges e = way_numbers_by g edges e (lower_in g e.source e.tails)

abbrev pub ways_at : Parts → List Edge → ℕ → List ℕ
ways_at g edges i = numbers_where (way_numbers g edges) i edges

-- how often a number stands in a list
abbrev pub often : ℕ → List ℕ → ℕ
often n ns = count (λ m. m == n) ns

-- a declaration's turn at a numbered place, where a coercion weighs so much
pub record Turns (t : Tables) (p : NumberedPlace) (step k w : ℕ) (numbered : List NumberedPlace) : Type 0 where
  pub number : k < 2147483648
  pub small : w ≤ 10001
  pub head : IsTurn t (place_by_numbers t p) (2 * k + 1) (w + step) numbered

-- the declaration of an edge is a turn at the numbered place
abbrev pub IsHeadBy : Tables → NumberedPlace → ℕ → Option ℕ → ℕ → List ℕ → Type 0
IsHeadBy t p step None w tails = Unit {0}
IsHeadBy t p step (Some k) w tails = Turns t p step k w (numbered_under (lambdas_under t.env p.lambdas k) tails)

abbrev pub IsHeadOf : Tables → NumberedPlace → ℕ → ℕ → Edge → Type 0
IsHeadOf t p step m e = IsHeadBy t p step (declared_in t.env e.source) (slice_index_or t.totals m 0) e.tails

-- so is that of each edge at a state
abbrev pub AreHeadsAt : Tables → NumberedPlace → ℕ → ℕ → Type 0
AreHeadsAt t p step i = (m : ℕ) (e : Edge) → slice_get t.edges m ≡ Some e → e.state ≡ i → IsHeadOf t p step m e

-- under a coercion those of the edges at the lower state
abbrev pub IsWayBy : Tables → NumberedPlace → ℕ → Edge → Option ℕ → Type 0
IsWayBy t p m e None = IsHeadOf t p 0 m e
IsWayBy t p m e (Some lower) = AreHeadsAt t p (coercion_weight t.env) lower

abbrev pub IsWayOf : Tables → NumberedPlace → ℕ → Edge → Type 0
IsWayOf t p m e = IsWayBy t p m e (lower_in t.env e.source e.tails)

abbrev pub AreWaysAt : Tables → NumberedPlace → ℕ → Type 0
AreWaysAt t p i = (m : ℕ) (e : Edge) → slice_get t.edges m ≡ Some e → e.state ≡ i → IsWayOf t p m e
