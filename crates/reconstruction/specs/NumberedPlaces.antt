-- Places as the search keeps them: by the lambdas around them and a state of the patterns.
use Rattle.std.specs.Prelude.{◌≡◌, ℕ, zero, suc, ◌+◌, Bool, ◌&&◌, ◌==◌, cond, List, [], ◌∷◌, length, slice_get, Option, Some, None}
use Rattle.terms.specs.Place.{Place}
use Rattle.terms.specs.declared.parts.Arg.{Arg}
use Rattle.terms.specs.declared.parts.Arg.TheVariants.{Fun}
use Rattle.terms.specs.declared.parts.Decl.{Decl}
use Rattle.terms.specs.declared.parts.Parts.{Parts}
use Rattle.succinct.specs.Sets.{types_bound}
use Rattle.patterns.specs.Patterned.{Patterned}
use Rattle.patterns.specs.States.{types_at, left_at}
use Rattle.patterns.specs.declared.state.State.{State}
use Rattle.least_weights.specs.LeastWeight.{place_at}
use Rattle.partial_terms.specs.Fronts.{same}
use Rattle.reconstruction.specs.declared.numbered_place.Lambdas.{Lambdas}
use Rattle.reconstruction.specs.declared.numbered_place.NumberedPlace.{NumberedPlace}

-- what the lambda binds that is the only argument
abbrev pub row_of_args : List Arg → List ℕ
row_of_args (Fun ps r ∷ []) = ps
row_of_args _ = []

abbrev pub row_of_decl : Option Decl → List ℕ
row_of_decl None = []
row_of_decl (Some d) = row_of_args d.args

-- what the lambda binds that declaration k wants, by the number k + 1
abbrev pub types_of : Parts → ℕ → List ℕ
types_of g zero = []
types_of g (suc k) = row_of_decl (slice_get g.decls k)

-- a row before others; at zero the rows end
abbrev pub before : List ℕ → ℕ → List (List ℕ) → List (List ℕ)
before row zero more = []
before row (suc k) more = row ∷ more

-- the rows of the lambdas of three declarations, outermost first
abbrev pub rows_by : Parts → ℕ → ℕ → ℕ → List (List ℕ)
rows_by g a b c = before (types_of g a) a (before (types_of g b) b (before (types_of g c) c []))

-- what the lambdas around a place bind
abbrev pub rows_at : Parts → Lambdas → List (List ℕ)
rows_at g l = rows_by g l.first l.second l.third

abbrev pub no_lambdas : Lambdas
no_lambdas = record { first = 0; second = 0; third = 0 }

-- a number more behind the last of three that isn't zero
abbrev pub with_number : ℕ → ℕ → ℕ → ℕ → Lambdas
with_number zero b c n = record { first = n; second = 0; third = 0 }
with_number (suc a) zero c n = record { first = suc a; second = n; third = 0 }
with_number (suc a) (suc b) c n = record { first = suc a; second = suc b; third = n }

-- the lambdas around a place and, innermost, the one that declaration k wants
abbrev pub with_lambda : Lambdas → ℕ → Lambdas
with_lambda l k = with_number l.first l.second l.third (k + 1)

-- the place at a state under these rows
abbrev pub at_state : Patterned → Option State → List (List ℕ) → Place
at_state d None ctx = record { ctx = ctx; left = 0; wanted = 0 }
at_state d (Some s) ctx = place_at d s ctx

-- the place that the numbers stand for
abbrev pub numbered_place_in : Parts → Patterned → NumberedPlace → Place
numbered_place_in g d p = at_state d (slice_get d.states p.state) (rows_at g p.lambdas)

-- the state's types are those that the rows bind, and the rows and the lambdas left make up the depth
pub record IsState (g : Parts) (d : Patterned) (i : ℕ) (ctx : List (List ℕ)) : Type 0 where
  pub state : State
  pub is : slice_get d.states i ≡ Some state
  pub types : types_bound ctx ≡ types_at d.space state.set
  pub depth : length ctx + left_at d.space state.set ≡ g.depth

abbrev pub IsNumbered : Parts → Patterned → NumberedPlace → Type 0
IsNumbered g d p = IsState g d p.state (rows_at g p.lambdas)

-- the place is that of a listed state
pub record IsKept (g : Parts) (d : Patterned) (p : Place) : Type 0 where
  pub number : ℕ
  pub at : IsState g d number p.ctx
  pub is : p ≡ place_at d at.state p.ctx

-- whether a state describes the place
abbrev pub describes : Parts → Patterned → Place → State → Bool
describes g d p s = same (types_bound p.ctx) (types_at d.space s.set) && ((left_at d.space s.set == p.left) && ((s.goal == p.wanted) && (length p.ctx + p.left == g.depth)))

-- a weight as a number, above the limit where there is none
abbrev pub number : ℕ → Option ℕ → ℕ
number limit None = limit + 1
number limit (Some w) = w

-- the weight beside the first state that passes the test
abbrev pub first_weight : (State → Bool) → List State → List (Option ℕ) → Option ℕ
first_weight p (s ∷ ss) (w ∷ ws) = cond (p s) w (first_weight p ss ws)
first_weight p _ _ = None

-- the least weight at a place, by the first state that describes it; above the limit where there is none
abbrev pub least_at : Parts → Patterned → List (Option ℕ) → Place → ℕ
least_at g d weights p = number g.limit (first_weight (describes g d p) d.states weights)
