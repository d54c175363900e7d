-- The typing rules of the simply typed calculus in long normal form, with a coercion at each place
-- (PLDI 2013, section 3). Contexts are lists of rows of types, one row for each lambda, outermost first.
use Rattle.std.specs.Prelude.{ℕ, Bool, true, false, ◌&&◌, ◌||◌, if◌then◌else◌, ◌==◌, nat_le, nat_lt, List, [], ◌∷◌, ◌++◌, length, slice_get, Option, Some, None}
use Rattle.std.specs.List.{list_any}
use Rattle.terms.specs.Expr.{Expr, var, head, Args, no_args, plain, lam}
use Rattle.terms.specs.declared.parts.Arg.{Arg}
use Rattle.terms.specs.declared.parts.Arg.TheVariants.{Plain, Fun}
use Rattle.terms.specs.declared.parts.Decl.{Decl}
use Rattle.terms.specs.declared.parts.Parts.{Parts}
use Rattle.terms.specs.declared.context.Ctx.{Ctx}

-- rows and nested lambdas are at most so many together
abbrev pub most_rows : ℕ
most_rows = 3

-- all rows joined: variable n is the n-th of them, from 0
unfoldable pub joined : List (List ℕ) → List ℕ
joined [] = []
joined (row ∷ more) = row ++ joined more

-- the rows of a context of the code that count
unfoldable pub rows : Ctx → List (List ℕ)
rows c = if nat_le 3 c.used then c.first.now ∷ c.second.now ∷ c.third.now ∷ [] else if c.used == 2 then c.first.now ∷ c.second.now ∷ [] else if c.used == 1 then c.first.now ∷ [] else []

-- whether two numbers are a pair of the list
unfoldable pub is_pair : List (ℕ × ℕ) → ℕ → ℕ → Bool
is_pair pairs a b = list_any (λ p. (p.0 == a) && (p.1 == b)) pairs

-- a may stand where b is wanted: it is b, or with it is a pair
unfoldable pub is_below : Parts → ℕ → ℕ → Bool
is_below g a b = (a == b) || is_pair g.pairs a b

-- a type that is below b
abbrev pub some_below : Parts → Option ℕ → ℕ → Bool
some_below g None b = false
some_below g (Some a) b = is_below g a b

-- the result of a declaration, where its arguments fit
abbrev pub result_if : Option Decl → Bool → Option ℕ
result_if None b = None
result_if (Some d) b = if b then Some d.result else None

-- what a declaration wants
abbrev pub args_wanted : Option Decl → List Arg
args_wanted None = []
args_wanted (Some d) = d.args

-- a term as an argument before others: under a lambda where one is wanted
abbrev pub placed : Arg → Expr → Args → Args
placed (Plain b) e rest = plain e rest
placed (Fun ps r) e rest = lam e rest

unfoldable mutual
  -- the type of a term under at most three rows, or none
  pub type_in : Parts → List (List ℕ) → Expr → Option ℕ
  type_in g ctx (var n) = slice_get (joined ctx) n
  type_in g ctx (head d xs) = result_if (slice_get g.decls d) (fits g ctx xs (args_wanted (slice_get g.decls d)))

  -- as many arguments as wanted, and each fits; rows and lambdas are no more than may be
  pub fits : Parts → List (List ℕ) → Args → List Arg → Bool
  fits g ctx no_args [] = true
  fits g ctx (plain e rest) (Plain b ∷ more) = some_below g (type_in g ctx e) b && fits g ctx rest more
  fits g ctx (lam e rest) (Fun ps r ∷ more) = nat_lt (length ctx) most_rows && some_below g (type_in g (ctx ++ ps ∷ []) e) r && fits g ctx rest more
  fits g ctx _ _ = false

-- the type of a term in a context of the code, which has at most three rows
abbrev pub type_of : Parts → Ctx → Expr → Option ℕ
type_of g c e = if nat_le c.used most_rows then type_in g (rows c) e else None
