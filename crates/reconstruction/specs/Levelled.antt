-- A level that is being made.
use Rattle.std.specs.Prelude.{◌≡◌, ℕ, ◌+◌, ◌<◌, ◌≤◌, ◌==◌, All, List, ◌∷◌, length, map, Option, None, Some}
use Rattle.terms.specs.Count.{count, total}
use Rattle.terms.specs.Faults.{IsValid}
use Rattle.terms.specs.Place.{goal_place}
use Rattle.terms.specs.Reading.{Reading, turn}
use Rattle.least_weights.specs.LeastWeight.{AreLeastWeights}
use Rattle.partial_terms.specs.Leasts.{AreLeast}
use Rattle.partial_terms.specs.Search.{IsSearch}
use Rattle.reconstruction.specs.NumberedPlaces.{no_lambdas, IsNumbered, IsKept}
use Rattle.reconstruction.specs.Tabled.{place_by_numbers, least_of, front_of, AreHeld, seen}
use Rattle.reconstruction.specs.Totals.{AreTotals}
use Rattle.reconstruction.specs.Usable.{AreFloors, AreUsable}
use Rattle.reconstruction.specs.Ways.{AreWaysAt}
use Rattle.reconstruction.specs.Variables.{numbers_at}
use Rattle.reconstruction.specs.declared.item.Item.{Item}
use Rattle.reconstruction.specs.declared.item.Arena.{Arena}
use Rattle.reconstruction.specs.declared.numbered_place.NumberedPlace.{NumberedPlace}
use Rattle.reconstruction.specs.declared.tables.Tables.{Tables}

-- What the tables must say for a search to be complete: least weights, at the goal too, the totals of the edges and
-- those that can be used, and at each numbered place edges that are turns there, of which each number that may come
-- to a term within the limit is added once.
pub record AreComplete (t : Tables) : Type 0 where
  pub valid : IsValid t.env
  pub weights : AreLeastWeights t.env t.patterns t.least
  pub least : AreLeast t.env t.env.limit (IsKept t.env t.patterns) (least_of t)
  pub root : IsKept t.env t.patterns (goal_place t.env)
  pub start : IsNumbered t.env t.patterns (record { lambdas = no_lambdas; state = 0 })
  pub start_is : place_by_numbers t (record { lambdas = no_lambdas; state = 0 }) ≡ goal_place t.env
  pub ways : (p : NumberedPlace) → IsNumbered t.env t.patterns p → AreWaysAt t p p.state
  pub once : (p : NumberedPlace) → IsNumbered t.env t.patterns p → (n : ℕ) → count (λ m. m == n) (numbers_at t p) ≤ 1
  pub totals : AreTotals t.env.limit t.least t.edges t.totals
  pub floors : AreFloors t.env t.edges t.totals t.floors
  pub usable : AreUsable t.env.limit t.floors t.edges t.usable
  pub complete : (p : NumberedPlace) → IsNumbered t.env t.patterns p → (n : ℕ) (r : Reading) → turn t.env (place_by_numbers t p) n ≡ Some r → r.weight + total (least_of t) r.open_places ≤ t.env.limit → 1 ≤ count (λ m. m == n) (numbers_at t p)

-- the popped item that is held, before the items of the queue
abbrev pub with_held : Option (ℕ × Item) → List (ℕ × Item) → List (ℕ × Item)
with_held None items = items
with_held (Some q) items = q ∷ items

-- no key of the queue is less than that of the held item
abbrev pub IsLeastHeld : Option (ℕ × Item) → List (ℕ × Item) → Type 0
IsLeastHeld None items = Unit {0}
IsLeastHeld (Some q) items = All (λ x. q.0 ≤ x.0) items

-- the search at a weight, with the fronts of the level that were found
pub record IsAt (t : Tables) (a : Arena) (from : ℕ) (items : List (ℕ × Item)) (found : List ℕ) : Type 0 where
  pub all : AreHeld t a items
  pub inside : All (λ i. i < length a.fronts) found
  pub search : IsSearch t.env t.env.limit (least_of t) (goal_place t.env) from (seen a items) (map (front_of a) found)
