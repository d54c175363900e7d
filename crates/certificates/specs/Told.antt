-- States that are told, each once, and what the floors of all of them rest on.
use Rattle.std.specs.Prelude.{◌≡◌, ◌⊎◌, ⊤, ℕ, ◌+◌, ◌-◌, ◌<◌, Bool, true, false, List, [], ◌∷◌, length, slice_get, slice_index_or, Option, Some, None, IfSome}
use Rattle.terms.specs.Weights.{coercion_weight}
use Rattle.terms.specs.declared.parts.Decl.{Decl}
use Rattle.terms.specs.declared.parts.Parts.{Parts}
use Rattle.succinct.specs.Compression.{Compression, AreDistinct}
use Rattle.succinct.specs.Sets.{has}
use Rattle.patterns.specs.Patterned.{Patterned, state_sought}
use Rattle.patterns.specs.declared.state.State.{State}
use Rattle.edges.specs.Edges.{decl_cost}
use Rattle.checker.specs.Floors.{top}

-- states in the order in which they were told, of so many
pub record ToldStates : Type 0 where
  pub states : List ℕ
  pub count : ℕ

-- each is told once, and a state is marked exactly where it is told
pub record IsTold (states : List ℕ) (marks : List Bool) : Type 0 where
  pub distinct : AreDistinct states
  pub marked : (k : ℕ) → slice_index_or marks k false ≡ has k states

-- a least weight as a floor: more than any inhabitant weighs, where no term is within the limit
abbrev pub weight_or_top : Parts → Option ℕ → ℕ
weight_or_top g None = top g
weight_or_top g (Some w) = w

-- the floor of a state, by the least weights
abbrev pub number_of : Parts → List (Option ℕ) → ℕ → ℕ
number_of g weights i = weight_or_top g (slice_index_or weights i None)

-- The states of these needs at state i are told, in order, until nothing is left of a number after their floors. A
-- need that is sought nowhere ends it: it is a lambda where none is left.
abbrev pub AreTold : Parts → Patterned → List (Option ℕ) → List ℕ → ℕ → List ℕ → ℕ → Type 0
AreTold g d weights told i [] rest = ⊤
AreTold g d weights told i (n ∷ ns) rest = (rest ≡ 0) ⊎ IfSome (state_sought d i n) (λ j. (has j told ≡ true) × AreTold g d weights told i ns (rest - number_of g weights j))

-- what a declaration asks for at state i, where so much is left
abbrev pub IsHeadTold : Parts → Compression → Patterned → List (Option ℕ) → List ℕ → ℕ → ℕ → ℕ → Type 0
IsHeadTold g c d weights told i most n = (decl : Decl) → slice_get g.decls n ≡ Some decl → AreTold g d weights told i (slice_index_or c.wanted n []) (most - decl_cost g decl)

-- what all declarations ask for that give a type
abbrev pub IsTypeTold : Parts → Compression → Patterned → List (Option ℕ) → List ℕ → ℕ → ℕ → ℕ → Type 0
IsTypeTold g c d weights told i most a = (n : ℕ) (decl : Decl) → slice_get g.decls n ≡ Some decl → decl.result ≡ a → AreTold g d weights told i (slice_index_or c.wanted n []) (most - decl_cost g decl)

-- what those ask for that give the lower type of a pair, by the pair's number behind those of the declarations
abbrev pub IsPairTold : Parts → Compression → Patterned → List (Option ℕ) → List ℕ → ℕ → ℕ → ℕ → Type 0
IsPairTold g c d weights told i most n = (j : ℕ) (pair : ℕ × ℕ) → n ≡ length g.decls + j → slice_get g.pairs j ≡ Some pair → IsTypeTold g c d weights told i most pair.0

-- what those ask for that give a type strictly below this one
abbrev pub AreLowersTold : Parts → Compression → Patterned → List (Option ℕ) → List ℕ → ℕ → ℕ → ℕ → Type 0
AreLowersTold g c d weights told i most b = (n : ℕ) (pair : ℕ × ℕ) → slice_get g.pairs n ≡ Some pair → pair.1 ≡ b → IsTypeTold g c d weights told i most pair.0

-- all that the floor of state i rests on is told
pub record IsStateTold (g : Parts) (c : Compression) (d : Patterned) (weights : List (Option ℕ)) (told : List ℕ) (i : ℕ) : Type 0 where
  pub goal : (s : State) → slice_get d.states i ≡ Some s → IsTypeTold g c d weights told i (number_of g weights i) s.goal
  pub lowers : (s : State) → slice_get d.states i ≡ Some s → AreLowersTold g c d weights told i (number_of g weights i - coercion_weight g) s.goal

-- the goal's state is told first, each state once, and all that the floors of told states rest on
pub record AreAllTold (g : Parts) (c : Compression) (d : Patterned) (weights : List (Option ℕ)) (told : List ℕ) : Type 0 where
  pub first : slice_get told 0 ≡ Some 0
  pub distinct : AreDistinct told
  pub within : (j : ℕ) → has j told ≡ true → j < length d.states
  pub each : (j : ℕ) → has j told ≡ true → IsStateTold g c d weights told j
