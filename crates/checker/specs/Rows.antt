-- The rows of a term: its parts in the order of the prefix code, each with its type and its weight in its context.
use Rattle.std.specs.Prelude.{◌≡◌, ℕ, ◌+◌, ◌*◌, List, [], ◌∷◌, ◌++◌, slice_get, Option, Some, None}
use Rattle.terms.specs.Expr.{Expr, var, head, Args, plain, lam}
use Rattle.terms.specs.Typing.{type_in, args_wanted}
use Rattle.terms.specs.Weights.{weight_in}
use Rattle.terms.specs.Place.{IsInhabitant, total_of}
use Rattle.terms.specs.declared.parts.Arg.{Arg}
use Rattle.terms.specs.declared.parts.Arg.TheVariants.{Plain, Fun}
use Rattle.terms.specs.declared.parts.Parts.{Parts}
use Rattle.checker.specs.declared.row.Row.{Row}

-- the row of a part, where it has a type
abbrev pub row_if : ℕ → Option ℕ → ℕ → List Row
row_if code None w = []
row_if code (Some t) w = record { code = code; result = t; weight = w } ∷ []

unfoldable mutual
  -- the rows of a term in its context
  pub rows_of : Parts → List (List ℕ) → Expr → List Row
  rows_of g ctx (var n) = row_if (2 * n) (type_in g ctx (var n)) (weight_in g ctx (var n))
  rows_of g ctx (head d xs) = row_if (2 * d + 1) (type_in g ctx (head d xs)) (weight_in g ctx (head d xs)) ++ args_rows g ctx xs (args_wanted (slice_get g.decls d))

  -- the rows of arguments, one after the other
  pub args_rows : Parts → List (List ℕ) → Args → List Arg → List Row
  args_rows g ctx (plain e rest) (Plain b ∷ more) = rows_of g ctx e ++ args_rows g ctx rest more
  args_rows g ctx (lam e rest) (Fun ps r ∷ more) = rows_of g (ctx ++ ps ∷ []) e ++ args_rows g ctx rest more
  args_rows g ctx _ _ = []

-- the rows are those of an inhabitant with this total
pub record IsItem (g : Parts) (rows : List Row) (total : ℕ) : Type 0 where
  pub term : Expr
  pub inhabits : IsInhabitant g term
  pub spelled : rows ≡ rows_of g [] term
  pub weighs : total ≡ total_of g term
