-- What was popped: different fronts of terms within a weight, and no front in the queue begins one of them.
use Rattle.std.specs.Prelude.{◌≡◌, ℕ, ◌+◌, ◌≤◌, true, List, All}
use Rattle.terms.specs.Expr.{Expr}
use Rattle.terms.specs.declared.parts.Parts.{Parts}
use Rattle.terms.specs.Code.{prefix_code}
use Rattle.terms.specs.Count.{count}
use Rattle.terms.specs.Place.{Place, fits_place, weigh, IsInhabitant}
use Rattle.partial_terms.specs.Fronts.{begins, same}
use Rattle.partial_terms.specs.Search.{times_completed}

-- some term of at most this weight completes the front
pub record HasCompletion (g : Parts) (root : Place) (w : ℕ) (f : List ℕ) : Type 0 where
  pub term : Expr
  pub fit : fits_place g root term ≡ true
  pub within : weigh g root term ≤ w
  pub starts : begins f (prefix_code term) ≡ true

-- different fronts of terms of at most this weight, none of which begins with a front of the queue
pub record IsPopped (g : Parts) (root : Place) (w : ℕ) (popped queue : List (List ℕ)) : Type 0 where
  pub distinct : (f : List ℕ) → count (same f) popped ≤ 1
  pub each : All (HasCompletion g root w) popped
  pub apart : All (λ q. count (begins q) popped ≡ 0) queue

-- each inhabitant completes a front that is left, or its whole code was popped
abbrev pub NoneLost : Parts → List (List ℕ) → List (List ℕ) → Type 0
NoneLost g popped left = (e : Expr) → IsInhabitant g e → 1 ≤ times_completed e left + count (same (prefix_code e)) popped
