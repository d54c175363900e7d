-- States: a set of bound types with a count of lambdas left, and the type that is sought.
use Rattle.std.specs.Prelude.{◌≡◌, ◌⊎◌, ℕ, ◌-◌, ◌<◌, Bool, true, false, ◌&&◌, ◌||◌, ◌==◌, cond, List, [], length, map, slice_get, slice_index_or, position, Option, Some, None, filter}
use Rattle.std.specs.List.{list_all, list_any}
use Rattle.number_places.specs.Places.{places_of}
use Rattle.succinct.specs.Sets.{has, joined_with}
use Rattle.succinct.specs.declared.kind.Succinct.{Succinct}
use Rattle.succinct.specs.declared.need.Need.{Need}
use Rattle.patterns.specs.declared.state.State.{State}
use Rattle.patterns.specs.declared.bound_set.BoundSet.{BoundSet}
use Rattle.patterns.specs.declared.wanted.Wanted.{Wanted}

-- The depth; the sets of bound types, each with its count of lambdas left; for each set and lambda the set in which
-- the lambda's body is sought; and where each need is sought. A set's number stands for the set with its count.
pub record Space : Type 0 where
  pub depth : ℕ
  pub bound : List BoundSet
  pub steps : List (List ℕ)
  pub wanted : List Wanted

-- no type, and no lambda left
abbrev pub no_set : BoundSet
no_set = record { types = []; left = 0 }

-- the types of a set, and its lambdas left
abbrev pub types_at : Space → ℕ → List ℕ
types_at p set = (slice_index_or p.bound set no_set).types

abbrev pub left_at : Space → ℕ → ℕ
left_at p set = (slice_index_or p.bound set no_set).left

-- the set in which the body of a lambda is sought, by the number of its need
abbrev pub step_at : List (List ℕ) → ℕ → ℕ → Option ℕ
step_at steps set n = slice_get (slice_index_or steps set []) n

-- the set in which a want is sought from a set, or none where a lambda is wanted and none is left
abbrev pub set_sought : Space → ℕ → Wanted → Option ℕ
set_sought p set w = cond w.lambda (cond (left_at p set == 0) None (step_at p.steps set w.number)) (Some set)

-- the states, as a table keeps them
pub record StateTable : Type 0 where
  pub keys : List State

-- the place of a state among the states
abbrev pub state_place : List State → State → Option ℕ
state_place states s = position (λ x. (s.set == x.set) && (s.goal == x.goal)) states

abbrev pub place_in : List State → ℕ → Option ℕ → Option ℕ
place_in states goal None = None
place_in states goal (Some set) = state_place states (record { set = set; goal = goal })

-- the number of the state in which a want is sought from a state
abbrev pub place_sought : Space → List State → State → Option Wanted → Option ℕ
place_sought p states from None = None
place_sought p states from (Some w) = place_in states w.goal (set_sought p from.set w)

-- whether the state at a place is marked
abbrev pub marked_at : List Bool → Option ℕ → Bool
marked_at marks None = false
marked_at marks (Some t) = slice_index_or marks t false

-- whether a need is met at a state, by the marks of the states
abbrev pub need_marked : Space → List State → List Bool → State → ℕ → Bool
need_marked p states marks from n = marked_at marks (place_sought p states from (slice_get p.wanted n))

abbrev pub needs_marked : Space → List State → List Bool → State → Option Succinct → Bool
needs_marked p states marks from None = false
needs_marked p states marks from (Some kind) = list_all (λ n. need_marked p states marks from n) kind.needs

-- whether all needs of a kind are met at a state
abbrev pub kind_marked : Space → List Succinct → List State → List Bool → State → ℕ → Bool
kind_marked p kinds states marks from k = needs_marked p states marks from (slice_get kinds k)

-- the kinds that end in a type
abbrev pub kinds_of : List Succinct → ℕ → List ℕ
kinds_of kinds goal = places_of goal (map (λ k. k.result) kinds)

-- a state is listed
abbrev pub IsListed : List State → State → Type 0
IsListed states s = (t : ℕ) × (slice_get states t ≡ Some s)

-- the set of each state is there
abbrev pub AreInRange : Space → List State → Type 0
AreInRange p states = (s : State) → IsListed states s → s.set < length p.bound

-- a set in which a want is sought is there, where the set that it is sought from is
abbrev pub AreSetsInRange : Space → Type 0
AreSetsInRange p = (n set to : ℕ) (w : Wanted) → slice_get p.wanted n ≡ Some w → set_sought p set w ≡ Some to → set < length p.bound → to < length p.bound

-- the state in which a need is sought is listed
abbrev pub IsOpenNeed : Space → List State → State → ℕ → Type 0
IsOpenNeed p states from n = (w : Wanted) (set : ℕ) → slice_get p.wanted n ≡ Some w → set_sought p from.set w ≡ Some set → IsListed states (record { set = set; goal = w.goal })

abbrev pub IsOpenKind : Space → List State → State → List ℕ → Type 0
IsOpenKind p states from needs = (n : ℕ) → has n needs ≡ true → IsOpenNeed p states from n

abbrev pub IsOpenState : Space → List Succinct → List State → State → List ℕ → Type 0
IsOpenState p kinds states from ending = (k : ℕ) (kind : Succinct) → has k ending ≡ true → slice_get kinds k ≡ Some kind → IsOpenKind p states from kind.needs

-- whether a state is seen to be inhabited, by the marks so far: its goal is in its set, or a kind is met
abbrev pub is_seen : Space → List Succinct → List State → List Bool → State → Bool
is_seen p kinds states marks s = has s.goal (types_at p s.set) || list_any (λ k. kind_marked p kinds states marks s k) (kinds_of kinds s.goal)

-- the state at a place is marked where it is seen to be inhabited
abbrev pub IsSettledAt : Space → List Succinct → List State → List Bool → ℕ → Type 0
IsSettledAt p kinds states marks i = (s : State) → slice_get states i ≡ Some s → is_seen p kinds states marks s ≡ true → slice_index_or marks i false ≡ true

abbrev pub IsSettled : Space → List Succinct → List State → List Bool → Type 0
IsSettled p kinds states marks = (i : ℕ) → IsSettledAt p kinds states marks i

-- the kinds by their results, as a table keeps them
pub record EndTable : Type 0 where
  pub goals : List ℕ
  pub lists : List (List ℕ)

-- the list at a place, or the empty one
abbrev pub list_at : List (List ℕ) → Option ℕ → List ℕ
list_at lists None = []
list_at lists (Some i) = slice_index_or lists i []

abbrev pub ending : EndTable → ℕ → List ℕ
ending ends goal = list_at ends.lists (position (λ x. goal == x) ends.goals)

-- the table shows the kinds that end in each type
abbrev pub AreEnds : List Succinct → EndTable → Type 0
AreEnds kinds ends = (goal : ℕ) → ending ends goal ≡ kinds_of kinds goal

-- where a need is sought: its type, and for a lambda the number of the need
pub record IsWantedAs (n : ℕ) (need : Need) (w : Wanted) : Type 0 where
  pub lambda : w.lambda ≡ need.lambda
  pub goal : w.goal ≡ need.result
  pub number : w.number ≡ n

-- each need is sought as the table says
abbrev pub AreWanted : List Need → List Wanted → Type 0
AreWanted needs wanted = (n : ℕ) (need : Need) → slice_get needs n ≡ Some need → (w : Wanted) × (slice_get wanted n ≡ Some w) × IsWantedAs n need w

-- the set with what the lambda of a need binds in it, and one lambda fewer left
abbrev pub bound_in : BoundSet → Need → BoundSet
bound_in set need = record { types = joined_with set.types need.params; left = set.left - 1 }

-- the body of each of the first so many lambdas is sought in the set with what it binds
abbrev pub ArePlaced : List Need → BoundSet → List BoundSet → List ℕ → ℕ → Type 0
ArePlaced needs outer bound row count = (n : ℕ) (need : Need) → n < count → slice_get needs n ≡ Some need → need.lambda ≡ true → (to : ℕ) × (slice_get row n ≡ Some to) × (slice_get bound to ≡ Some (bound_in outer need))

-- the set is the outer one with what some lambda binds in it
pub record IsBinding (needs : List Need) (outer set : BoundSet) : Type 0 where
  pub number : ℕ
  pub need : Need
  pub numbered : slice_get needs number ≡ Some need
  pub lambda : need.lambda ≡ true
  pub is : set ≡ bound_in outer need

-- from each of the first so many sets in which a lambda is left, the body of each lambda is sought in the set with
-- what it binds
abbrev pub AreSteps : List Need → List BoundSet → List (List ℕ) → ℕ → Type 0
AreSteps needs bound steps count = (k n : ℕ) (set : BoundSet) (need : Need) → k < count → slice_get bound k ≡ Some set → 0 < set.left → slice_get needs n ≡ Some need → need.lambda ≡ true → (to : ℕ) × (step_at steps k n ≡ Some to) × (slice_get bound to ≡ Some (bound_in set need))

-- the set is an earlier one with what a lambda binds in it
pub record IsBoundBy (needs : List Need) (bound : List BoundSet) (k : ℕ) (set : BoundSet) : Type 0 where
  pub from : ℕ
  pub outer : BoundSet
  pub earlier : from < k
  pub there : slice_get bound from ≡ Some outer
  pub room : 0 < outer.left
  pub binding : IsBinding needs outer set

-- set 0 is empty and has all lambdas left, and each other one is what lambdas bind
abbrev pub AreBound : ℕ → List Need → List BoundSet → Type 0
AreBound depth needs bound = (k : ℕ) (set : BoundSet) → slice_get bound k ≡ Some set → ((k ≡ 0) × (set ≡ record { types = []; left = depth })) ⊎ IsBoundBy needs bound k set

-- the kinds that end in the goal of a state and are met there, by the marks
abbrev pub list_of : Space → List Succinct → List State → List Bool → State → List ℕ
list_of p kinds states marks s = filter (λ k. kind_marked p kinds states marks s k) (kinds_of kinds s.goal)

-- the lists are those of the states
abbrev pub AreLists : Space → List Succinct → List State → List Bool → List State → List (List ℕ) → Type 0
AreLists p kinds states marks some lists = lists ≡ map (λ s. list_of p kinds states marks s) some
