-- What edges weigh with the least weights at their tails.
use Rattle.std.specs.Prelude.{◌≡◌, ◌⊎◌, ℕ, ◌+◌, ◌<◌, ◌≤◌, nat_lt, cond, List, [], ◌∷◌, length, slice_get, slice_index_or, Option, Some, None}
use Rattle.terms.specs.Count.{total}
use Rattle.terms.specs.Typing.{args_wanted}
use Rattle.terms.specs.declared.parts.Arg.{Arg}
use Rattle.terms.specs.declared.parts.Arg.TheVariants.{Fun}
use Rattle.terms.specs.declared.parts.Parts.{Parts}
use Rattle.edges.specs.Edges.{Edge}
use Rattle.reconstruction.specs.NumberedPlaces.{number, with_lambda}
use Rattle.reconstruction.specs.declared.numbered_place.Lambdas.{Lambdas}

-- the least weight at a state, above the limit where there is none
abbrev pub number_of : ℕ → List (Option ℕ) → ℕ → ℕ
number_of limit weights t = number limit (slice_index_or weights t None)

-- the least weights at some states together
abbrev pub least_total : ℕ → List (Option ℕ) → List ℕ → ℕ
least_total limit weights states = total (number_of limit weights) states

-- a number, or both it and what it stands for are above the limit
abbrev pub IsCapped : ℕ → ℕ → ℕ → Type 0
IsCapped limit shown real = (shown ≡ real) ⊎ ((limit < shown) × (limit < real))

-- a number that is one above the limit where it is above it
pub record IsTotal (limit real shown : ℕ) : Type 0 where
  pub capped : IsCapped limit shown real
  pub small : shown ≤ limit + 1

-- the total of each edge
pub record AreTotals (limit : ℕ) (weights : List (Option ℕ)) (edges : List Edge) (totals : List ℕ) : Type 0 where
  pub as_many : length totals ≡ length edges
  pub each : (m : ℕ) (e : Edge) → slice_get edges m ≡ Some e → IsTotal limit (e.weight + least_total limit weights e.tails) (slice_index_or totals m 0)

-- the declaration that a source is, none for a pair, whose number is after those, and for variables
abbrev pub declared_in : Parts → Option ℕ → Option ℕ
declared_in g None = None
declared_in g (Some n) = cond (nat_lt n (length g.decls)) (Some n) None

abbrev pub first_of : List ℕ → Option ℕ
first_of [] = None
first_of (t ∷ ts) = Some t

-- the state of the lower type, where the source is a pair
abbrev pub lower_in : Parts → Option ℕ → List ℕ → Option ℕ
lower_in g None tails = None
lower_in g (Some n) tails = cond (nat_lt n (length g.decls)) None (first_of tails)

-- no edge of a declaration from one number up to another totals less than this
abbrev pub IsLightest : Parts → List Edge → List ℕ → ℕ → ℕ → ℕ → Type 0
IsLightest g edges totals start end least = (m k : ℕ) (e : Edge) → start ≤ m → m < end → slice_get edges m ≡ Some e → declared_in g e.source ≡ Some k → least ≤ slice_index_or totals m 0

-- at each state no declaration's edge totals less than its number
abbrev pub AreLightest : Parts → List Edge → List ℕ → List ℕ → Type 0
AreLightest g edges totals lightest = (m k : ℕ) (e : Edge) → slice_get edges m ≡ Some e → declared_in g e.source ≡ Some k → slice_index_or lightest e.state 0 ≤ slice_index_or totals m 0

-- the lambdas around the places that a declaration opens: one more where it wants just a lambda
abbrev pub lambdas_by : List Arg → Lambdas → ℕ → Lambdas
lambdas_by (Fun ps r ∷ []) l k = with_lambda l k
lambdas_by _ l k = l

abbrev pub lambdas_under : Parts → Lambdas → ℕ → Lambdas
lambdas_under g l k = lambdas_by (args_wanted (slice_get g.decls k)) l k
