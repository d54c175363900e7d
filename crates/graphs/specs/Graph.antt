-- Directed graphs as rows of numbers: from each node, the nodes that its edges lead to.
use Rattle.std.specs.Prelude.{◌≡◌, ◌≢◌, ℕ, ◌<◌, Bool, true, false, List, [], length, get_or, Contains}
use Rattle.graphs.specs.Paths.{Leads}

-- The nodes that the edges of a node lead to; none outside the graph.
abbrev pub edges : List (List ℕ) → ℕ → List ℕ
edges graph a = get_or graph a []

-- An edge leads from a to b.
abbrev pub IsEdge : List (List ℕ) → ℕ → ℕ → Type 0
IsEdge graph a b = Contains (edges graph a) b

-- b is reached from a by one edge or more.
abbrev pub Reaches : List (List ℕ) → ℕ → ℕ → Type 0
Reaches graph a b = Leads (IsEdge graph) a b

-- Each edge leads to a node of the graph.
abbrev pub InRange : List (List ℕ) → Type 0
InRange graph = (a b : ℕ) → Contains (edges graph a) b → b < length graph

-- No node below n but `skip` reaches itself.
abbrev pub IsAcyclicBelow : List (List ℕ) → ℕ → ℕ → Type 0
IsAcyclicBelow graph skip n = (a : ℕ) → a < n → a ≢ skip → Reaches graph a a → ⊥

-- The least node but `skip` that reaches itself.
abbrev pub IsLeastCycle : List (List ℕ) → ℕ → ℕ → Type 0
IsLeastCycle graph skip a = (a ≢ skip) × Reaches graph a a × IsAcyclicBelow graph skip a

-- No node but `skip` reaches itself.
abbrev pub IsAcyclic : List (List ℕ) → ℕ → Type 0
IsAcyclic graph skip = (a : ℕ) → a ≢ skip → Reaches graph a a → ⊥

-- Whether a node is marked; no node outside the marks is.
abbrev pub is_marked : List Bool → ℕ → Bool
is_marked marks a = get_or marks a false

-- The marks say which nodes are reached from a.
abbrev pub AreMarked : List (List ℕ) → ℕ → List Bool → Type 0
AreMarked graph a marks = (b : ℕ) → (is_marked marks b ≡ true → Reaches graph a b) × (Reaches graph a b → is_marked marks b ≡ true)

-- The nodes in the list are those that are reached from a.
abbrev pub AreAncestors : List (List ℕ) → ℕ → List ℕ → Type 0
AreAncestors graph a nodes = (b : ℕ) → (Contains nodes b → Reaches graph a b) × (Reaches graph a b → Contains nodes b)

-- The marks of n nodes, none of them set.
abbrev pub AreFree : ℕ → List Bool → Type 0
AreFree n marks = (length marks ≡ n) × ((b : ℕ) → is_marked marks b ≡ false)

-- Of the edges of a, those to nodes that don't reach it.
abbrev pub IsForwardRow : List (List ℕ) → ℕ → List ℕ → Type 0
IsForwardRow graph a row = (b : ℕ) → (Contains row b → Contains (edges graph a) b × (Reaches graph b a → ⊥)) × (Contains (edges graph a) b → (Reaches graph b a → ⊥) → Contains row b)

-- The graph without the edges that lie on cycles.
pub record IsForward (graph rows : List (List ℕ)) : Type 0 where
  pub long : length rows ≡ length graph
  pub each : (a : ℕ) → IsForwardRow graph a (edges rows a)
