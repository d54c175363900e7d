-- What a search's tables say of places and of partial terms.
use Rattle.std.specs.Prelude.{◌≡◌, ℕ, ◌+◌, ◌<◌, ◌≤◌, Bool, true, false, cond, All, List, [], ◌∷◌, ◌++◌, length, get_or, map, reverse, Option, Some, IsPermutation}
use Rattle.terms.specs.Count.{total}
use Rattle.terms.specs.Place.{Place, goal_place}
use Rattle.terms.specs.Reading.{Reading, turn}
use Rattle.partial_terms.specs.Fronts.{reading, key_within}
use Rattle.partial_terms.specs.Search.{key_of, children}
use Rattle.partial_terms.specs.Chained.{IsGrown}
use Rattle.reconstruction.specs.NumberedPlaces.{numbered_place_in, IsNumbered, least_at}
use Rattle.reconstruction.specs.Totals.{IsCapped}
use Rattle.reconstruction.specs.declared.item.Item.{Item}
use Rattle.reconstruction.specs.declared.item.Arena.{Arena}
use Rattle.reconstruction.specs.declared.item.Parent.{Parent}
use Rattle.reconstruction.specs.declared.numbered_place.Lambdas.{Lambdas}
use Rattle.reconstruction.specs.declared.numbered_place.NumberedPlace.{NumberedPlace}
use Rattle.reconstruction.specs.declared.tables.Tables.{Tables}

-- the place that the numbers stand for
abbrev pub place_by_numbers : Tables → NumberedPlace → Place
place_by_numbers t p = numbered_place_in t.env t.patterns p

abbrev pub places_of : Tables → List NumberedPlace → List Place
places_of t ps = map (place_by_numbers t) ps

-- the least weight at a place
abbrev pub least_of : Tables → Place → ℕ
least_of t p = least_at t.env t.patterns t.least p

abbrev pub AreNumbered : Tables → List NumberedPlace → Type 0
AreNumbered t ps = All (IsNumbered t.env t.patterns) ps

-- a front, whose last number stands first in its list
abbrev pub front_of : Arena → ℕ → List ℕ
front_of a i = reverse (get_or a.fronts i [])

abbrev pub stack_of : Arena → ℕ → List NumberedPlace
stack_of a i = get_or a.stacks i []

-- an item is a partial term under its key
pub record IsHeld (t : Tables) (a : Arena) (k : ℕ) (i : Item) : Type 0 where
  pub front_in : i.front < length a.fronts
  pub stack_in : i.stack < length a.stacks
  pub numbered : AreNumbered t (stack_of a i.stack)
  pub weight : ℕ
  pub is : reading t.env (goal_place t.env) (front_of a i.front) ≡ Some (record { weight = weight; open_places = places_of t (stack_of a i.stack) })
  pub keyed : k ≡ weight + total (least_of t) (places_of t (stack_of a i.stack))
  pub within : k ≤ t.env.limit

abbrev pub AreHeld : Tables → Arena → List (ℕ × Item) → Type 0
AreHeld t a items = All (λ q. IsHeld t a q.0 q.1) items

-- the same with the first open place taken off
pub record IsParent (t : Tables) (a : Arena) (p : Parent) : Type 0 where
  pub front_in : p.front < length a.fronts
  pub rest_in : p.rest < length a.stacks
  pub first : IsNumbered t.env t.patterns p.place
  pub others : AreNumbered t (stack_of a p.rest)
  pub weight : ℕ
  pub is : reading t.env (goal_place t.env) (front_of a p.front) ≡ Some (record { weight = weight; open_places = place_by_numbers t p.place ∷ places_of t (stack_of a p.rest) })
  pub base : p.base ≡ weight + total (least_of t) (places_of t (stack_of a p.rest))

-- lists are only added
pub record AreGrown (old new : Arena) : Type 0 where
  pub fronts : IsGrown old.fronts new.fronts
  pub stacks : IsGrown old.stacks new.stacks

-- a head at a place, with the numbered places that it opens and the least total of what it heads
pub record IsTurn (t : Tables) (p : Place) (n w : ℕ) (numbered : List NumberedPlace) : Type 0 where
  pub weight : ℕ
  pub is : turn t.env p n ≡ Some (record { weight = weight; open_places = places_of t numbered })
  pub opened : AreNumbered t numbered
  pub capped : IsCapped t.env.limit w (weight + total (least_of t) (places_of t numbered))

-- the numbered places of these states under the same lambdas
abbrev pub numbered_under : Lambdas → List ℕ → List NumberedPlace
numbered_under l [] = []
numbered_under l (s ∷ more) = record { lambdas = l; state = s } ∷ numbered_under l more

-- what follows a front by one number
abbrev pub child : Tables → List ℕ → ℕ → Option Reading
child t f n = reading t.env (goal_place t.env) (f ++ n ∷ [])

-- whether a term within the limit may come of it
abbrev pub may : Tables → List ℕ → ℕ → Bool
may t f n = key_within t.env.limit (least_of t) (child t f n)

-- one item more, if it may
abbrev pub PushesIf : Bool → Tables → Arena → List ℕ → ℕ → List (ℕ × Item) → List (ℕ × Item) → Type 0
PushesIf false t a f n old new = new ≡ old
PushesIf true t a f n old new = (i : Item) × IsPermutation ((key_of (least_of t) (child t f n), i) ∷ old) new × IsHeld t a (key_of (least_of t) (child t f n)) i × (front_of a i.front ≡ f ++ n ∷ [])

abbrev pub Pushes : Tables → Arena → List ℕ → ℕ → List (ℕ × Item) → List (ℕ × Item) → Type 0
Pushes t a f n old new = PushesIf (may t f n) t a f n old new

-- keys and fronts of items
abbrev pub seen : Arena → List (ℕ × Item) → List (ℕ × List ℕ)
seen a items = map (λ q. (q.0, front_of a q.1.front)) items

-- the numbers that pass a test
unfoldable pub picked : (ℕ → Bool) → List ℕ → List ℕ
picked ok [] = []
picked ok (n ∷ ns) = cond (ok n) (n ∷ picked ok ns) (picked ok ns)

-- the items that grow from a front by these numbers are added
pub record Grew (t : Tables) (a0 a1 : Arena) (f : List ℕ) (ns : List ℕ) (old new : List (ℕ × Item)) : Type 0 where
  pub grown : AreGrown a0 a1
  pub all : AreHeld t a1 new
  pub moved : IsPermutation (children t.env (least_of t) (goal_place t.env) f (picked (may t f) ns) ++ seen a0 old) (seen a1 new)
