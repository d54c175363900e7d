-- What a term weighs: its heads, its uses of variables, its binders and its coercions
-- (PLDI 2013, section 4, with coercions and binders weighed at their places).
use Rattle.std.specs.Prelude.{ℕ, zero, suc, ◌+◌, if◌then◌else◌, ◌==◌, nat_le, nat_lt, List, [], ◌∷◌, ◌++◌, length, slice_get, Option, Some, None}
use Rattle.terms.specs.Expr.{Expr, var, head, Args, plain, lam}
use Rattle.terms.specs.Typing.{most_rows, type_in, args_wanted, rows}
use Rattle.terms.specs.declared.parts.Arg.{Arg}
use Rattle.terms.specs.declared.parts.Arg.TheVariants.{Plain, Fun}
use Rattle.terms.specs.declared.parts.Decl.{Decl}
use Rattle.terms.specs.declared.parts.Parts.{Parts}
use Rattle.terms.specs.declared.parts.Steps.{Steps}
use Rattle.terms.specs.declared.context.Ctx.{Ctx}

-- the weights that belong to no declaration, where nobody sets them
abbrev pub usual_steps : Steps
usual_steps = record { bound = 1; binder = 1; step = 10 }

-- what a use of a variable weighs in an environment
unfoldable pub variable_weight : Parts → ℕ
variable_weight g = g.steps.bound

-- what a binder of a lambda weighs
unfoldable pub binder_weight : Parts → ℕ
binder_weight g = g.steps.binder

-- what a coercion weighs
unfoldable pub coercion_weight : Parts → ℕ
coercion_weight g = g.steps.step

-- the sum of n weights, each w
unfoldable pub sum_of_equal : ℕ → ℕ → ℕ
sum_of_equal w zero = 0
sum_of_equal w (suc n) = w + sum_of_equal w n

-- what n binders weigh together
abbrev pub binders_weight : Parts → ℕ → ℕ
binders_weight g n = sum_of_equal (binder_weight g) n

-- what the coercion from the one type to the other weighs, where coercions weigh w: nothing where the types are
-- one, or where there is no type
abbrev pub step_by : ℕ → Option ℕ → ℕ → ℕ
step_by w None b = 0
step_by w (Some a) b = if a == b then 0 else w

-- what it weighs in an environment
abbrev pub step_in : Parts → Option ℕ → ℕ → ℕ
step_in g t b = step_by (coercion_weight g) t b

-- what a head weighs
abbrev pub decl_weight : Option Decl → ℕ
decl_weight None = 0
decl_weight (Some d) = d.weight

unfoldable mutual
  -- the weight of a term under these rows, without a coercion above it; it means something where there is a type
  pub weight_in : Parts → List (List ℕ) → Expr → ℕ
  weight_in g ctx (var n) = variable_weight g
  weight_in g ctx (head d xs) = decl_weight (slice_get g.decls d) + args_weight g ctx xs (args_wanted (slice_get g.decls d))

  -- the weight of arguments at their places, coercions and binders included
  pub args_weight : Parts → List (List ℕ) → Args → List Arg → ℕ
  args_weight g ctx (plain e rest) (Plain b ∷ more) = weight_in g ctx e + step_in g (type_in g ctx e) b + args_weight g ctx rest more
  args_weight g ctx (lam e rest) (Fun ps r ∷ more) = weight_in g (ctx ++ ps ∷ []) e + binders_weight g (length ps) + step_in g (type_in g (ctx ++ ps ∷ []) e) r + args_weight g ctx rest more
  args_weight g ctx _ _ = 0

-- a weight that is told: of a term with a type, where the number is below 2 ^ 32
abbrev pub told : Option ℕ → ℕ → Option ℕ
told None w = None
told (Some t) w = if nat_lt w 4294967296 then Some w else None

-- the weight of a term in a context of the code, or none where it has no type or the sum passes 4,294,967,295
abbrev pub weight_of : Parts → Ctx → Expr → Option ℕ
weight_of g c e = if nat_le c.used most_rows then told (type_in g (rows c) e) (weight_in g (rows c) e) else None
