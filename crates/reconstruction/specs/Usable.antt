-- The edges of a state that a search can use, the lightest first.
use Rattle.std.specs.Prelude.{◌≡◌, ℕ, zero, suc, ◌+◌, ◌<◌, ◌≤◌, ◌&&◌, ◌==◌, nat_le, cond, List, [], ◌∷◌, ◌++◌, length, take, slice_get, slice_index_or, Some, IsPermutation}
use Rattle.std.specs.List.Sorted.{IsNonDecreasingBy}
use Rattle.terms.specs.Weights.{coercion_weight}
use Rattle.terms.specs.declared.parts.Parts.{Parts}
use Rattle.edges.specs.Edges.{Edge}
use Rattle.reconstruction.specs.Totals.{declared_in, lower_in}
use Rattle.reconstruction.specs.Ways.{edge_at}

-- No head that an edge adds totals less than its floor: not the declaration of the edge, nor under a coercion one of
-- the lower state.
pub record IsFloor (g : Parts) (edges : List Edge) (totals : List ℕ) (m : ℕ) (e : Edge) (floor : ℕ) : Type 0 where
  pub head : (k : ℕ) → declared_in g e.source ≡ Some k → floor ≤ slice_index_or totals m 0
  pub under : (lower n k : ℕ) (f : Edge) → lower_in g e.source e.tails ≡ Some lower → slice_get edges n ≡ Some f → f.state ≡ lower → declared_in g f.source ≡ Some k → floor ≤ slice_index_or totals n 0 + coercion_weight g

-- the floor of each edge
abbrev pub AreFloors : Parts → List Edge → List ℕ → List ℕ → Type 0
AreFloors g edges totals floors = (m : ℕ) (e : Edge) → slice_get edges m ≡ Some e → IsFloor g edges totals m e (slice_index_or floors m 0)

-- the numbers below one of a state's edges whose floors are within the limit
unfoldable pub usable_below : ℕ → List ℕ → List Edge → ℕ → ℕ → List ℕ
usable_below limit floors edges i zero = []
usable_below limit floors edges i (suc m) = usable_below limit floors edges i m ++ cond ((edge_at edges m).state == i && nat_le (slice_index_or floors m 0) limit) (m ∷ []) []

-- a state's edges whose floors are within the limit, each once, by rising floors
pub record IsUsable (limit : ℕ) (floors : List ℕ) (edges : List Edge) (i : ℕ) (row : List ℕ) : Type 0 where
  pub are : IsPermutation (usable_below limit floors edges i (length edges)) row
  pub rising : IsNonDecreasingBy (λ m. slice_index_or floors m 0) row

-- those of each state
abbrev pub AreUsable : ℕ → List ℕ → List Edge → List (List ℕ) → Type 0
AreUsable limit floors edges rows = (i : ℕ) → IsUsable limit floors edges i (slice_index_or rows i [])

-- the first edges of a row, after which all floors are above the room
pub record IsWithin (floors : List ℕ) (room : ℕ) (row part : List ℕ) : Type 0 where
  pub many : ℕ
  pub is : part ≡ take many row
  pub rest : (k : ℕ) → many ≤ k → k < length row → room < slice_index_or floors (slice_index_or row k 0) 0
