-- What the search for patterns finds, and what it means for terms.
use Rattle.std.specs.Prelude.{◌≡◌, ◌⊎◌, ℕ, suc, ◌+◌, ◌<◌, ◌≤◌, true, cond, List, [], length, slice_get, Option, Some, None}
use Rattle.succinct.specs.Compression.{Compression, Source, sources, IsKindOf, AreDistinct}
use Rattle.succinct.specs.Sets.{has, IsRising, joined_with, types_bound}
use Rattle.succinct.specs.declared.kind.Succinct.{Succinct}
use Rattle.succinct.specs.declared.need.Need.{Need}
use Rattle.terms.specs.Expr.{Expr}
use Rattle.terms.specs.Place.{fits_place}
use Rattle.terms.specs.Typing.{most_rows}
use Rattle.terms.specs.declared.parts.Parts.{Parts}
use Rattle.patterns.specs.Derivable.{IsDerivable, AreDerivable}
use Rattle.patterns.specs.Met.{AreMet}
use Rattle.patterns.specs.States.{Space, types_at, left_at, place_sought, kinds_of, IsListed, IsOpenState, AreWanted, AreSteps, AreBound, AreInRange}
use Rattle.patterns.specs.declared.state.State.{State}

-- the sets and needs, the states, and the kinds listed at each state
pub record Patterned : Type 0 where
  pub space : Space
  pub states : List State
  pub lists : List (List ℕ)

-- the number of the state in which a need is sought from a state
abbrev pub sought_from : Patterned → Option State → ℕ → Option ℕ
sought_from d None n = None
sought_from d (Some s) n = place_sought d.space d.states s (slice_get d.space.wanted n)

abbrev pub state_sought : Patterned → ℕ → ℕ → Option ℕ
state_sought d s n = sought_from d (slice_get d.states s) n

-- t is where the need is sought from s: its type, in the set joined with what its lambda binds, with one lambda
-- fewer left
pub record IsSoughtAt (p : Space) (s : State) (need : Need) (t : State) : Type 0 where
  pub goal : t.goal ≡ need.result
  pub types : types_at p t.set ≡ joined_with (types_at p s.set) need.params
  pub left : left_at p s.set ≡ cond need.lambda (suc (left_at p t.set)) (left_at p t.set)

-- where a need is sought from a state: there is a state for each need of a kind that ends in the state's goal, but
-- for lambdas where none is left
pub record IsSoughtFrom (c : Compression) (d : Patterned) (i : ℕ) (s : State) (n : ℕ) (need : Need) : Type 0 where
  pub some : (j : ℕ) (t : State) → state_sought d i n ≡ Some j → slice_get d.states j ≡ Some t → IsSoughtAt d.space s need t
  pub there : (k : ℕ) (kind : Succinct) → slice_get c.kinds k ≡ Some kind → kind.result ≡ s.goal → has n kind.needs ≡ true → (need.lambda ≡ true → 0 < left_at d.space s.set) → (j : ℕ) × (state_sought d i n ≡ Some j) × (j < length d.states)

-- so for each state and need
abbrev pub AreSought : Compression → Patterned → Type 0
AreSought c d = (i n : ℕ) (s : State) (need : Need) → slice_get d.states i ≡ Some s → slice_get c.needs n ≡ Some need → IsSoughtFrom c d i s n need

-- the list holds, each once and rising, exactly the kinds that end in the goal of the state and whose needs are all met there
pub record IsListOf (p : Space) (kinds : List Succinct) (s : State) (list : List ℕ) : Type 0 where
  pub rising : IsRising list
  pub only : (k : ℕ) → has k list ≡ true → (kind : Succinct) × (slice_get kinds k ≡ Some kind) × (kind.result ≡ s.goal) × AreMet p kinds s kind.needs
  pub all : (k : ℕ) (kind : Succinct) → slice_get kinds k ≡ Some kind → kind.result ≡ s.goal → AreMet p kinds s kind.needs → has k list ≡ true

-- the states from the first one on, each once, and their lists
pub record AreFound (p : Space) (kinds : List Succinct) (goal : ℕ) (states : List State) (lists : List (List ℕ)) : Type 0 where
  pub distinct_states : AreDistinct states
  pub first : slice_get states 0 ≡ Some (record { set = 0; goal = goal })
  -- for each kind that ends in a listed state's goal, the states of its needs are listed, where they can be sought
  pub closed : (s : State) → IsListed states s → IsOpenState p kinds states s (kinds_of kinds s.goal)
  pub as_many : length lists ≡ length states
  pub each : (i : ℕ) (s : State) (list : List ℕ) → slice_get states i ≡ Some s → slice_get lists i ≡ Some list → IsListOf p kinds s list

-- the patterns of a compressed environment at a goal and a depth
pub record ArePatterns (c : Compression) (goal depth : ℕ) (d : Patterned) : Type 0 where
  pub depth_is : d.space.depth ≡ depth
  pub distinct_sets : AreDistinct d.space.bound
  pub first_set : slice_get d.space.bound 0 ≡ Some (record { types = []; left = depth })
  -- there are no other sets than those that lambdas bind, and the set of each state is there
  pub only_sets : AreBound depth c.needs d.space.bound
  pub in_range : AreInRange d.space d.states
  pub lengths : length d.space.wanted ≡ length c.needs
  pub wanted : AreWanted c.needs d.space.wanted
  pub steps : AreSteps c.needs d.space.bound d.space.steps (length d.space.bound)
  pub found : AreFound d.space c.kinds goal d.states d.lists

-- what a state and its list say of an environment: which types are derivable, and where terms fit
pub record AgreesAt (g : Parts) (c : Compression) (p : Space) (s : State) (list : List ℕ) : Type 0 where
  pub rising : IsRising (types_at p s.set)
  -- a kind is listed exactly where it ends in the goal and the wants of its sources are derivable
  pub listed : (k n : ℕ) (source : Source) → slice_get (sources g) n ≡ Some source → slice_get c.kind_numbers n ≡ Some k → source.result ≡ s.goal → AreDerivable g (types_at p s.set) (left_at p s.set) source.args → has k list ≡ true
  pub only_those : (k : ℕ) → has k list ≡ true → (kind : Succinct) × (slice_get c.kinds k ≡ Some kind) × (kind.result ≡ s.goal) × ((source : Source) → IsKindOf c.needs source kind → AreDerivable g (types_at p s.set) (left_at p s.set) source.args)
  -- the goal is derivable exactly where it is in the set or a kind is listed
  pub listed_is_derivable : (has s.goal (types_at p s.set) ≡ true) ⊎ ((k : ℕ) × (has k list ≡ true)) → IsDerivable g (types_at p s.set) (left_at p s.set) s.goal
  pub derivable_is_listed : IsDerivable g (types_at p s.set) (left_at p s.set) s.goal → (has s.goal (types_at p s.set) ≡ true) ⊎ ((k : ℕ) × (has k list ≡ true))
  -- which is exactly where a term fits, in each context with these types
  pub derivable_has_a_term : (ctx : List (List ℕ)) → types_bound ctx ≡ types_at p s.set → length ctx + left_at p s.set ≤ most_rows → IsDerivable g (types_at p s.set) (left_at p s.set) s.goal → (e : Expr) × (fits_place g (record { ctx = ctx; left = left_at p s.set; wanted = s.goal }) e ≡ true)
  pub a_term_is_derivable : (ctx : List (List ℕ)) → types_bound ctx ≡ types_at p s.set → (e : Expr) → fits_place g (record { ctx = ctx; left = left_at p s.set; wanted = s.goal }) e ≡ true → IsDerivable g (types_at p s.set) (left_at p s.set) s.goal

-- so at each state
abbrev pub Agrees : Parts → Compression → Patterned → Type 0
Agrees g c d = (i : ℕ) (s : State) (list : List ℕ) → slice_get d.states i ≡ Some s → slice_get d.lists i ≡ Some list → AgreesAt g c d.space s list
