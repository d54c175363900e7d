-- Marking by a worklist: each marked state is looked at once, and then the kinds that want something there are tried.
use Rattle.std.specs.Prelude.{◌≡◌, ◌⊎◌, ℕ, ◌<◌, ◌≤◌, Bool, true, false, ◌&&◌, ◌==◌, List, [], slice_get, slice_index_or, Option, Some, None}
use Rattle.std.specs.List.{list_all}
use Rattle.succinct.specs.Sets.{has}
use Rattle.succinct.specs.declared.kind.Succinct.{Succinct}
use Rattle.patterns.specs.declared.state.State.{State}
use Rattle.patterns.specs.declared.watchers.Use.{Use}
use Rattle.patterns.specs.States.{Space, types_at, place_sought, need_marked}

-- a use stands in the list
abbrev pub IsAmong : List Use → Use → Type 0
IsAmong uses one = (e : ℕ) × (slice_get uses e ≡ Some one)

-- each use is of one of so many states
abbrev pub AreTargets : ℕ → List Use → Type 0
AreTargets count uses = (e : ℕ) (one : Use) → slice_get uses e ≡ Some one → one.target < count

-- the uses of a state by a kind's needs
abbrev pub AreUsedBy : Space → List State → List Use → State → ℕ → ℕ → List ℕ → Type 0
AreUsedBy p states uses s place k needs = (n j : ℕ) → has n needs ≡ true → place_sought p states s (slice_get p.wanted n) ≡ Some j → IsAmong uses (record { target = j; place = place; kind = k })

-- the needs of a kind, if there is one
abbrev pub needs_of : Option Succinct → List ℕ
needs_of None = []
needs_of (Some kind) = kind.needs

-- wherever a kind that ends in a state's goal has a need that is sought at a state, there is a use of that state
abbrev pub AreUses : Space → List Succinct → List State → List Use → Type 0
AreUses p kinds states uses = (place k : ℕ) (s : State) (kind : Succinct) → slice_get states place ≡ Some s → slice_get kinds k ≡ Some kind → kind.result ≡ s.goal → AreUsedBy p states uses s place k kind.needs

-- a need of the kind is sought at a state that is still to be looked at: it stands on the worklist at place i or later
pub record Waits (p : Space) (states : List State) (worklist : List ℕ) (i : ℕ) (s : State) (kind : Succinct) : Type 0 where
  pub need : ℕ
  pub wanted : has need kind.needs ≡ true
  pub at : ℕ
  pub sought : place_sought p states s (slice_get p.wanted need) ≡ Some at
  pub place : ℕ
  pub later : i ≤ place
  pub stands : slice_get worklist place ≡ Some at

-- the kind is to be tried at the state: its use is among those with these numbers
pub record IsPending (uses : List Use) (numbers : List ℕ) (place k : ℕ) : Type 0 where
  pub number : ℕ
  pub one : Use
  pub numbered : has number numbers ≡ true
  pub is : slice_get uses number ≡ Some one
  pub of_state : one.place ≡ place
  pub of_kind : one.kind ≡ k

-- the first states are marked where their goal is in their set; and where all needs of a kind are marked, the state
-- is marked, or one of these needs waits, or the kind is to be tried
pub record IsQuiet (p : Space) (kinds : List Succinct) (states : List State) (uses : List Use) (marks : List Bool) (worklist : List ℕ) (i : ℕ) (numbers : List ℕ) (count : ℕ) : Type 0 where
  pub bound : (place : ℕ) (s : State) → place < count → slice_get states place ≡ Some s → has s.goal (types_at p s.set) ≡ true → slice_index_or marks place false ≡ true
  pub met : (place k : ℕ) (s : State) (kind : Succinct) → place < count → slice_get states place ≡ Some s → slice_get kinds k ≡ Some kind → kind.result ≡ s.goal → list_all (λ n. need_marked p states marks s n) kind.needs ≡ true
      → slice_index_or marks place false ≡ false → Waits p states worklist i s kind ⊎ IsPending uses numbers place k

-- whether a kind ends in the goal of a state and all its needs are marked
abbrev pub ends_needs : Space → List State → List Bool → State → Option Succinct → Bool
ends_needs p states marks from None = false
ends_needs p states marks from (Some kind) = (kind.result == from.goal) && list_all (λ n. need_marked p states marks from n) kind.needs

abbrev pub ends_marked : Space → List Succinct → List State → List Bool → State → ℕ → Bool
ends_marked p kinds states marks from k = ends_needs p states marks from (slice_get kinds k)
