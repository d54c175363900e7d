-- What is known of nodes that lie on cycles with a node of their own, their root.
use Rattle.std.specs.Prelude.{◌≡◌, ℕ, true, List, Bool, length, get_or, Contains}
use Rattle.graphs.specs.Graph.{edges, Reaches, is_marked}
use Rattle.graphs.specs.declared.joined.Joined.{Joined}

-- The root of a node, 0 where there is none.
abbrev pub root_of : List ℕ → ℕ → ℕ
root_of roots a = get_or roots a 0

-- The rows have some of the graph's edges and no others.
pub record IsPart (graph rows : List (List ℕ)) : Type 0 where
  pub long : length rows ≡ length graph
  pub part : (a b : ℕ) → Contains (edges rows a) b → Contains (edges graph a) b

-- The rows have some of the graph's edges, each turned round, and no others.
pub record IsTurned (graph rows : List (List ℕ)) : Type 0 where
  pub long : length rows ≡ length graph
  pub part : (a b : ℕ) → Contains (edges rows a) b → Contains (edges graph b) a

-- Each marked node is reached from its root.
abbrev pub AreRooted : List (List ℕ) → List ℕ → List Bool → Type 0
AreRooted graph roots marks = (a : ℕ) → is_marked marks a ≡ true → Reaches graph (root_of roots a) a

-- Each marked node reaches its root.
abbrev pub AreLed : List (List ℕ) → List ℕ → List Bool → Type 0
AreLed graph roots marks = (a : ℕ) → is_marked marks a ≡ true → Reaches graph a (root_of roots a)

-- Marks of nodes that their roots reach, and of nodes that reach their roots.
pub record AreMarks (graph : List (List ℕ)) (roots : List ℕ) (reached reaching : List Bool) : Type 0 where
  pub below : AreRooted graph roots reached
  pub above : AreLed graph roots reaching

-- The marks are true of the graph.
abbrev pub IsJoined : List (List ℕ) → Joined → Type 0
IsJoined graph joined = AreMarks graph joined.roots.items joined.below.items joined.above.items
