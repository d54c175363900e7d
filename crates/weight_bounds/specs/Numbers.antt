-- Numbers for the places that solve the equations of the rules. A number above the limit stands for none.
use Rattle.std.specs.Prelude.{◌≡◌, ◌⊎◌, ℕ, zero, suc, ◌+◌, ◌*◌, ◌≤◌, ◌<◌, ◌∷◌, true, List, length, slice_index_or, slice_set, Option, Some, None, MatchOption, IsPermutation}
use Rattle.std.specs.List.{Contains}
use Rattle.terms.specs.Count.{total}
use Rattle.terms.specs.Weights.{binders_weight}
use Rattle.terms.specs.declared.parts.Arg.{Arg}
use Rattle.terms.specs.declared.parts.Arg.TheVariants.{Plain, Fun}
use Rattle.terms.specs.declared.parts.Parts.{Parts}
use Rattle.weight_bounds.specs.Bounds.{place}
use Rattle.weight_bounds.specs.Rules.{Rule, IsRule, wants_at}

-- the number at a place, above the limit where there is no such place
abbrev pub number_at : ℕ → List ℕ → ℕ → ℕ
number_at limit numbers i = slice_index_or numbers i (limit + 1)

-- what an argument weighs by the numbers; a lambda can't stand where none is left
abbrev pub arg_cost : Parts → ℕ → List ℕ → ℕ → Arg → ℕ
arg_cost g limit numbers left (Plain b) = number_at limit numbers (place b left)
arg_cost g limit numbers zero (Fun ps r) = limit + 1
arg_cost g limit numbers (suc left) (Fun ps r) = binders_weight g (length ps) + number_at limit numbers (place r left)

-- what arguments weigh with what wants them
abbrev pub args_cost : Parts → ℕ → List ℕ → ℕ → ℕ → List Arg → ℕ
args_cost g limit numbers left weight args = weight + total (arg_cost g limit numbers left) args

-- what a rule gives its place
abbrev pub cost : Parts → ℕ → List ℕ → Rule → ℕ
cost g limit numbers r = args_cost g limit numbers r.left r.weight r.args

-- the cost, or none where it is above the limit
abbrev pub IsWithin : ℕ → ℕ → Option ℕ → Type 0
IsWithin limit c o = MatchOption o (limit < c) (λ w. (w ≡ c) × (w ≤ limit))

-- the rule lessens no number
abbrev pub IsClosed : Parts → ℕ → List ℕ → Rule → Type 0
IsClosed g limit numbers r = cost g limit numbers r ≤ limit → number_at limit numbers r.at ≤ cost g limit numbers r

-- a rule that reaches the number at a place
pub record IsSupport (g : Parts) (limit : ℕ) (numbers : List ℕ) (i : ℕ) : Type 0 where
  pub rule : Rule
  pub is : IsRule g rule
  pub here : rule.at ≡ i
  pub reaches : cost g limit numbers rule ≤ number_at limit numbers i

abbrev pub AreSupported : Parts → ℕ → List ℕ → Type 0
AreSupported g limit numbers = (i : ℕ) → number_at limit numbers i ≤ limit → IsSupport g limit numbers i

-- no rule lessens a number, and each number within the limit is reached by a rule
pub record IsSolution (g : Parts) (limit : ℕ) (numbers : List ℕ) : Type 0 where
  pub closed : (r : Rule) → IsRule g r → IsClosed g limit numbers r
  pub supported : AreSupported g limit numbers

-- the place stands in the queue under its number
abbrev pub IsPending : ℕ → List ℕ → List (ℕ × ℕ) → ℕ → Type 0
IsPending limit numbers queue i = (i < length numbers) × Contains queue (number_at limit numbers i, i)

-- a rule that lessens no number, or for one of whose arguments a place is still to be taken from the queue
abbrev pub IsSettled : Parts → ℕ → List ℕ → List (ℕ × ℕ) → Rule → Type 0
IsSettled g limit numbers queue r = IsClosed g limit numbers r ⊎ ((i : ℕ) × (wants_at i r ≡ true) × IsPending limit numbers queue i)

-- all numbers together
abbrev pub worth : List ℕ → ℕ
worth numbers = total (λ n. n) numbers

-- some steps: what is settled and what is supported stays so, and numbers fall by more than the queue grows
pub record IsStep (g : Parts) (limit : ℕ) (old : List ℕ) (queue : List (ℕ × ℕ)) (new : List ℕ) (queue' : List (ℕ × ℕ)) : Type 0 where
  pub as_many : length new ≡ length old
  pub settled : (r : Rule) → IsSettled g limit old queue r → IsSettled g limit new queue' r
  pub supported : AreSupported g limit old → AreSupported g limit new
  pub falls : 2 * worth new + length queue' ≤ 2 * worth old + length queue

-- the number at a place fell, and the place stands in the queue under it
pub record IsLowered (limit i c : ℕ) (old : List ℕ) (queue : List (ℕ × ℕ)) (new : List ℕ) (queue' : List (ℕ × ℕ)) : Type 0 where
  pub less : c < number_at limit old i
  pub set_there : new ≡ slice_set old i c
  pub queued : IsPermutation ((c, i) ∷ queue) queue'

-- nothing changed
pub record IsSame (old : List ℕ) (queue : List (ℕ × ℕ)) (new : List ℕ) (queue' : List (ℕ × ℕ)) : Type 0 where
  pub numbers : new ≡ old
  pub queued : queue' ≡ queue

-- the number at a place is at most the cost, where there is one: it was, or it fell
abbrev pub IsLowering : ℕ → ℕ → Option ℕ → List ℕ → List (ℕ × ℕ) → List ℕ → List (ℕ × ℕ) → Type 0
IsLowering limit i None old queue new queue' = IsSame old queue new queue'
IsLowering limit i (Some c) old queue new queue' = ((number_at limit old i ≤ c) × IsSame old queue new queue') ⊎ IsLowered limit i c old queue new queue'

-- a step after which the rule is settled
pub record IsRelaxed (g : Parts) (limit : ℕ) (r : Rule) (old : List ℕ) (queue : List (ℕ × ℕ)) (new : List ℕ) (queue' : List (ℕ × ℕ)) : Type 0 where
  pub step : IsStep g limit old queue new queue'
  pub settled : IsSettled g limit new queue' r
