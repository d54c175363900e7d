-- Places where terms are wanted, what fits them, and what it weighs there; then the inhabitants of the goal.
use Rattle.std.specs.Prelude.{◌≡◌, ℕ, zero, suc, ◌+◌, ◌≤◌, Bool, true, false, ◌&&◌, nat_le, List, [], length}
use Rattle.terms.specs.Expr.{Expr, var, head, Args, no_args, plain, lam}
use Rattle.terms.specs.Typing.{most_rows, some_below, type_in}
use Rattle.terms.specs.Weights.{weight_in, step_in}
use Rattle.terms.specs.declared.parts.Parts.{Parts}

-- where a term is wanted: the rows of the lambdas around it, how many more may nest, and the type
pub record Place : Type 0 where
  pub ctx : List (List ℕ)
  pub left : ℕ
  pub wanted : ℕ

unfoldable mutual
  -- lambdas nest at most this deep in the term
  pub shallow : ℕ → Expr → Bool
  shallow left (var n) = true
  shallow left (head d xs) = args_shallow left xs

  -- and in the arguments
  pub args_shallow : ℕ → Args → Bool
  args_shallow left no_args = true
  args_shallow left (plain e rest) = shallow left e && args_shallow left rest
  args_shallow zero (lam e rest) = false
  args_shallow (suc left) (lam e rest) = shallow left e && args_shallow (suc left) rest

-- the term may stand at the place
unfoldable pub fits_place : Parts → Place → Expr → Bool
fits_place g p e = some_below g (type_in g p.ctx e) p.wanted && shallow p.left e

-- what it weighs there, the coercion to the wanted type included
unfoldable pub weigh : Parts → Place → Expr → ℕ
weigh g p e = weight_in g p.ctx e + step_in g (type_in g p.ctx e) p.wanted

-- rows and lambdas together are no more than may be
abbrev pub HasRoom : Place → Type 0
HasRoom p = length p.ctx + p.left ≤ most_rows

-- the place of the goal: no lambda around it, the depth left, the goal's type
abbrev pub goal_place : Parts → Place
goal_place g = record { ctx = []; left = g.depth; wanted = g.goal }

-- the weight of a term at the goal
abbrev pub total_of : Parts → Expr → ℕ
total_of g e = weigh g (goal_place g) e

-- whether a term is an inhabitant: it fits the goal's place, and its total is within the limit
abbrev pub is_inhabitant : Parts → Expr → Bool
is_inhabitant g e = fits_place g (goal_place g) e && nat_le (total_of g e) g.limit

-- the term is an inhabitant
abbrev pub IsInhabitant : Parts → Expr → Type 0
IsInhabitant g e = is_inhabitant g e ≡ true
