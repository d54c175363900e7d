-- Partial terms: fronts of prefix codes, and what may come of them (PLDI 2013, section 5).
use Rattle.std.specs.Prelude.{◌≡◌, ℕ, ◌≤◌, true, nat_le, List, ◌∷◌, Option, None, Some}
use Rattle.terms.specs.Code.{prefix_code}
use Rattle.terms.specs.Count.{once_if}
use Rattle.terms.specs.Expr.{Expr}
use Rattle.terms.specs.Listing.{Progress}
use Rattle.terms.specs.Place.{IsInhabitant, total_of}
use Rattle.terms.specs.declared.parts.Parts.{Parts}
use Rattle.partial_terms.specs.Fronts.{begins}
use Rattle.reconstruction.specs.Rebuilding.{Rebuilding}
use Rattle.partial_terms.specs.Search.{times_completed}

-- the completions of a partial term: the inhabitants whose prefix code begins with it
abbrev pub completions_of : Parts → List ℕ → Expr → Type 0
completions_of g f e = IsInhabitant g e × (begins f (prefix_code e) ≡ true)

-- a member of the set has this total, and none has a lesser one
pub record IsLeastTotal (g : Parts) (set : Expr → Type 0) (k : ℕ) : Type 0 where
  pub term : Expr
  pub member : set term
  pub weighs : total_of g term ≡ k
  pub least : (e : Expr) → set e → k ≤ total_of g e

-- the least total of a partial term's completions, of which there is at least one
abbrev pub least_completion : Parts → List ℕ → ℕ → Type 0
least_completion g f k = IsLeastTotal g (completions_of g f) k

-- the whole code of an inhabitant of this total
pub record IsCode (g : Parts) (w : ℕ) (f : List ℕ) : Type 0 where
  pub term : Expr
  pub inhabits : IsInhabitant g term
  pub weighs : total_of g term ≡ w
  pub coded : f ≡ prefix_code term

-- the item that is held, before those of the queue
abbrev pub waiting_with : Option (ℕ × List ℕ) → List (ℕ × List ℕ) → List (ℕ × List ℕ)
waiting_with None queue = queue
waiting_with (Some item) queue = item ∷ queue

-- all keyed partial terms of a search
abbrev pub waiting : Rebuilding → List (ℕ × List ℕ)
waiting s = waiting_with s.held s.queue

-- Each inhabitant that isn't given yet completes exactly one of these partial terms, and one that was given none. A
-- whole code is completed by its own term alone.
abbrev pub AreDivided : Progress → List (List ℕ) → Type 0
AreDivided p fs = (e : Expr) → IsInhabitant p.parts e → times_completed e fs ≡ once_if (nat_le p.from (total_of p.parts e))
