-- Numbers for states that solve the equations of a list of edges. A number above the limit stands for none.
use Rattle.std.specs.Prelude.{◌≡◌, ◌⊎◌, ℕ, ◌+◌, ◌*◌, ◌≤◌, ◌<◌, true, List, length, slice_get, slice_index_or, Some}
use Rattle.std.specs.List.{Contains}
use Rattle.terms.specs.Count.{total}
use Rattle.succinct.specs.Sets.{has}
use Rattle.edges.specs.Edges.{Edge}

-- the number of a state, above the limit where there is no such state
abbrev pub number_at : ℕ → List ℕ → ℕ → ℕ
number_at limit numbers i = slice_index_or numbers i (limit + 1)

-- what an edge gives its state: its weight and the numbers of its tails, each as often as it stands there
abbrev pub cost : ℕ → List ℕ → Edge → ℕ
cost limit numbers e = e.weight + total (number_at limit numbers) e.tails

-- the edge lessens no number
abbrev pub IsClosed : ℕ → List ℕ → Edge → Type 0
IsClosed limit numbers e = cost limit numbers e ≤ limit → number_at limit numbers e.state ≤ cost limit numbers e

-- an edge that reaches the number of a state
pub record IsSupport (limit : ℕ) (edges : List Edge) (numbers : List ℕ) (i : ℕ) : Type 0 where
  pub number : ℕ
  pub edge : Edge
  pub is : slice_get edges number ≡ Some edge
  pub at_state : edge.state ≡ i
  pub reaches : cost limit numbers edge ≤ number_at limit numbers i

abbrev pub AreSupported : ℕ → List Edge → List ℕ → Type 0
AreSupported limit edges numbers = (i : ℕ) → number_at limit numbers i ≤ limit → IsSupport limit edges numbers i

-- no edge lessens a number, and each number within the limit is reached by an edge
pub record IsSolution (limit : ℕ) (edges : List Edge) (numbers : List ℕ) : Type 0 where
  pub closed : (m : ℕ) (e : Edge) → slice_get edges m ≡ Some e → IsClosed limit numbers e
  pub supported : AreSupported limit edges numbers

-- the state stands in the queue under its number
abbrev pub IsPending : ℕ → List ℕ → List (ℕ × ℕ) → ℕ → Type 0
IsPending limit numbers queue t = (t < length numbers) × Contains queue (number_at limit numbers t, t)

-- an edge that lessens no number, or one of whose tails is still to be taken from the queue
abbrev pub IsSettled : ℕ → List ℕ → List (ℕ × ℕ) → Edge → Type 0
IsSettled limit numbers queue e = IsClosed limit numbers e ⊎ ((t : ℕ) × (has t e.tails ≡ true) × IsPending limit numbers queue t)

-- all numbers together
abbrev pub worth : List ℕ → ℕ
worth numbers = total (λ n. n) numbers

-- some steps: what is settled and what is supported stays so, and numbers fall by more than the queue grows
pub record IsStep (limit : ℕ) (edges : List Edge) (old : List ℕ) (queue : List (ℕ × ℕ)) (new : List ℕ) (queue' : List (ℕ × ℕ)) : Type 0 where
  pub as_many : length new ≡ length old
  pub settled : (e : Edge) → IsSettled limit old queue e → IsSettled limit new queue' e
  pub supported : AreSupported limit edges old → AreSupported limit edges new
  pub falls : 2 * worth new + length queue' ≤ 2 * worth old + length queue
