-- Edges by state: each is a way to a term of just the state's type, by a variable that is bound there, or by a
-- declaration or a pair whose wants are met at other states (after PLDI 2013, section 4).
use Rattle.std.specs.Prelude.{◌≡◌, ◌⊎◌, ℕ, ◌+◌, ◌<◌, ◌≤◌, true, List, [], ◌++◌, length, map, slice_get, slice_index_or, Option, Some, None}
use Rattle.succinct.specs.Compression.{Compression, Source, sources, need_of}
use Rattle.succinct.specs.Sets.{has}
use Rattle.patterns.specs.Patterned.{Patterned, state_sought}
use Rattle.patterns.specs.States.{types_at}
use Rattle.patterns.specs.declared.state.State.{State}
use Rattle.terms.specs.Reading.{binders}
use Rattle.terms.specs.Weights.{variable_weight, binders_weight, coercion_weight}
use Rattle.terms.specs.declared.parts.Arg.{Arg}
use Rattle.terms.specs.declared.parts.Decl.{Decl}
use Rattle.terms.specs.declared.parts.Parts.{Parts}

-- a way to a term at a state
pub record Edge : Type 0 where
  -- the state at which the term is built
  pub state : ℕ
  -- the declaration or pair at its head, the pairs numbered after the declarations; none for the state's variables
  pub source : Option ℕ
  -- what it weighs without the terms at the tails
  pub weight : ℕ
  -- the states of the wants, in their order; a state stands as often as it is wanted
  pub tails : List ℕ

-- what a declaration weighs with the binders of its lambdas
abbrev pub decl_cost : Parts → Decl → ℕ
decl_cost g d = d.weight + binders_weight g (binders d.args)

-- what a pair weighs: the coercion
abbrev pub pair_cost : Parts → ℕ × ℕ → ℕ
pair_cost g p = coercion_weight g

-- what each source weighs without its arguments: the declarations, and after them the pairs
abbrev pub source_costs : Parts → List ℕ
source_costs g = map (decl_cost g) g.decls ++ map (pair_cost g) g.pairs

-- a state in which the want is sought from state i
pub record IsTail (c : Compression) (d : Patterned) (i : ℕ) (a : Arg) (t : ℕ) : Type 0 where
  pub need : ℕ
  pub is : slice_get c.needs need ≡ Some (need_of a)
  pub to : state_sought d i need ≡ Some t

-- one for each want, in order
pub record AreTails (c : Compression) (d : Patterned) (i : ℕ) (args : List Arg) (tails : List ℕ) : Type 0 where
  pub as_many : length tails ≡ length args
  pub each : (k : ℕ) (a : Arg) (t : ℕ) → slice_get args k ≡ Some a → slice_get tails k ≡ Some t → IsTail c d i a t

-- the kind of source n is listed at state i
pub record IsOffered (c : Compression) (d : Patterned) (i n : ℕ) : Type 0 where
  pub kind : ℕ
  pub is : slice_get c.kind_numbers n ≡ Some kind
  pub listed : has kind (slice_index_or d.lists i []) ≡ true

-- an edge of the variables: the goal of its state is bound there
pub record IsBoundEdge (g : Parts) (d : Patterned) (e : Edge) : Type 0 where
  pub of_variables : e.source ≡ None
  pub state : State
  pub is : slice_get d.states e.state ≡ Some state
  pub bound : has state.goal (types_at d.space state.set) ≡ true
  pub weight : e.weight ≡ variable_weight g
  pub tails : e.tails ≡ []

-- an edge of a source whose kind is listed at its state, and whose weight is within the limit
pub record IsSourceEdge (g : Parts) (c : Compression) (d : Patterned) (e : Edge) : Type 0 where
  pub number : ℕ
  pub numbered : e.source ≡ Some number
  pub offered : IsOffered c d e.state number
  pub source : Source
  pub is : slice_get (sources g) number ≡ Some source
  pub weight : slice_get (source_costs g) number ≡ Some e.weight
  pub within : e.weight ≤ g.limit
  pub tails : AreTails c d e.state source.args e.tails

abbrev pub IsEdge : Parts → Compression → Patterned → Edge → Type 0
IsEdge g c d e = IsBoundEdge g d e ⊎ IsSourceEdge g c d e

-- the edge of this source, or of the variables, at state i stands among the edges
pub record HasEdge (i : ℕ) (source : Option ℕ) (edges : List Edge) : Type 0 where
  pub number : ℕ
  pub edge : Edge
  pub is : slice_get edges number ≡ Some edge
  pub at_state : edge.state ≡ i
  pub of_source : edge.source ≡ source

-- the variables of a state come first, and then its sources
abbrev pub rank : Option ℕ → ℕ
rank None = 0
rank (Some n) = n + 1

abbrev pub ComesBefore : Edge → Edge → Type 0
ComesBefore e e' = (e.state < e'.state) ⊎ ((e.state ≡ e'.state) × (rank e.source < rank e'.source))

-- the edges of all states: those there are, each once, by their states and then by their sources
pub record AreEdges (g : Parts) (c : Compression) (d : Patterned) (edges : List Edge) : Type 0 where
  pub sound : (m : ℕ) (e : Edge) → slice_get edges m ≡ Some e → IsEdge g c d e
  pub in_range : (m : ℕ) (e : Edge) → slice_get edges m ≡ Some e → e.state < length d.states
  -- the variables of each state whose goal is bound there
  pub bound : (i : ℕ) (s : State) → slice_get d.states i ≡ Some s → has s.goal (types_at d.space s.set) ≡ true → HasEdge i None edges
  -- and each source whose kind is listed there, unless it alone is above the limit
  pub complete : (i n w : ℕ) → IsOffered c d i n → slice_get (source_costs g) n ≡ Some w → w ≤ g.limit → HasEdge i (Some n) edges
  pub rising : (m m' : ℕ) (e e' : Edge) → m < m' → slice_get edges m ≡ Some e → slice_get edges m' ≡ Some e' → ComesBefore e e'

-- from one number up to another stand just the edges of state i
pub record IsRunOf (i : ℕ) (edges : List Edge) (start end : ℕ) : Type 0 where
  pub order : start ≤ end
  pub within : end ≤ length edges
  pub inside : (m : ℕ) (e : Edge) → slice_get edges m ≡ Some e → start ≤ m → m < end → e.state ≡ i
  pub outside : (m : ℕ) (e : Edge) → slice_get edges m ≡ Some e → e.state ≡ i → (start ≤ m) × (m < end)
