-- The edges in the order in which their table is made.
use Rattle.std.specs.Prelude.{◌≡◌, ℕ, zero, suc, ◌+◌, ◌≤◌, ◌<◌, true, nat_le, cond, List, [], ◌∷◌, ◌++◌, length, map, slice_get, slice_index_or, Option, Some, None}
use Rattle.succinct.specs.Compression.{Compression}
use Rattle.succinct.specs.Sets.{has, set_of}
use Rattle.patterns.specs.Patterned.{Patterned, state_sought}
use Rattle.patterns.specs.States.{types_at}
use Rattle.patterns.specs.declared.state.State.{State}
use Rattle.terms.specs.Weights.{variable_weight}
use Rattle.terms.specs.declared.parts.Parts.{Parts}
use Rattle.edges.specs.Edges.{Edge, source_costs}
use Rattle.edges.specs.declared.head.Head.{Head}

-- an edge by what its table holds of it
abbrev pub edge_of : Head → List ℕ → Edge
edge_of h tails = record { state = h.state; source = h.source; weight = h.weight; tails = tails }

-- the edges by their heads and tails
unfoldable pub edges_of : List Head → List (List ℕ) → List Edge
edges_of [] rows = []
edges_of (h ∷ hs) [] = []
edges_of (h ∷ hs) (row ∷ rows) = edge_of h row ∷ edges_of hs rows

-- the edges of a state stand from its start up to the next one's
pub record AreRuns (starts : List ℕ) (edges : List Edge) : Type 0 where
  pub rising : (i : ℕ) → i + 1 < length starts → slice_index_or starts i 0 ≤ slice_index_or starts (i + 1) 0
  pub within : (i : ℕ) → i < length starts → slice_index_or starts i 0 ≤ length edges
  pub each : (m : ℕ) (e : Edge) → slice_get edges m ≡ Some e → (e.state + 1 < length starts) × (slice_index_or starts e.state 0 ≤ m) × (m < slice_index_or starts (e.state + 1) 0)

-- the states in which needs are sought from state i
abbrev pub tail_in : Option ℕ → ℕ
tail_in None = 0
tail_in (Some t) = t

abbrev pub tails_at : Patterned → ℕ → List ℕ → List ℕ
tails_at d i needs = map (λ n. tail_in (state_sought d i n)) needs

-- each of the needs is sought somewhere
abbrev pub AreFound : Patterned → ℕ → List ℕ → Type 0
AreFound d i needs = (n : ℕ) → has n needs ≡ true → (t : ℕ) × (state_sought d i n ≡ Some t)

-- the edge of source n at state i, if it weighs so much
abbrev pub edge_within : ℕ → Patterned → ℕ → ℕ → List ℕ → Option ℕ → List Edge
edge_within limit d i n needs None = []
edge_within limit d i n needs (Some w) = cond (nat_le w limit) (record { state = i; source = Some n; weight = w; tails = tails_at d i needs } ∷ []) []

abbrev pub edge_at : Parts → Compression → Patterned → ℕ → ℕ → List Edge
edge_at g c d i n = edge_within g.limit d i n (slice_index_or c.wanted n []) (slice_get (source_costs g) n)

-- the edges of sources at state i
unfoldable pub edges_at : Parts → Compression → Patterned → ℕ → List ℕ → List Edge
edges_at g c d i [] = []
edges_at g c d i (n ∷ ns) = edge_at g c d i n ++ edges_at g c d i ns

-- the sources of some kinds
unfoldable pub sources_in : List (List ℕ) → List ℕ → List ℕ
sources_in selected [] = []
sources_in selected (k ∷ ks) = slice_index_or selected k [] ++ sources_in selected ks

-- the sources whose kinds are listed at state i, rising
abbrev pub sources_at : Compression → Patterned → ℕ → List ℕ
sources_at c d i = set_of (sources_in c.selected (slice_index_or d.lists i []))

-- the edge of the variables of state i
abbrev pub bound_edge : Parts → ℕ → Edge
bound_edge g i = record { state = i; source = None; weight = variable_weight g; tails = [] }

-- it stands there where the goal of the state is bound
abbrev pub bound_in : Parts → Patterned → ℕ → Option State → List Edge
bound_in g d i None = []
bound_in g d i (Some s) = cond (has s.goal (types_at d.space s.set)) (bound_edge g i ∷ []) []

abbrev pub bound_at : Parts → Patterned → ℕ → List Edge
bound_at g d i = bound_in g d i (slice_get d.states i)

-- the edges of the states below a number
unfoldable pub edges_below : Parts → Compression → Patterned → ℕ → List Edge
edges_below g c d zero = []
edges_below g c d (suc i) = edges_below g c d i ++ (bound_at g d i ++ edges_at g c d i (sources_at c d i))

-- where the edges of the states up to a number start
unfoldable pub starts_below : Parts → Compression → Patterned → ℕ → List ℕ
starts_below g c d zero = 0 ∷ []
starts_below g c d (suc i) = starts_below g c d i ++ length (edges_below g c d (suc i)) ∷ []
