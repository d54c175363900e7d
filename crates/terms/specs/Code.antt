-- The prefix code of a term: 2n for variable n, and 2d + 1 for declaration d, then its arguments' codes.
use Rattle.std.specs.Prelude.{ℕ, ◌+◌, ◌*◌, List, [], ◌∷◌, ◌++◌}
use Rattle.terms.specs.Expr.{Expr, var, head, Args, no_args, plain, lam}

abbrev mutual
  -- the numbers of a term
  pub prefix_code : Expr → List ℕ
  prefix_code (var n) = (2 * n) ∷ []
  prefix_code (head d xs) = (2 * d + 1) ∷ args_code xs

  -- the numbers of arguments, one after the other
  pub args_code : Args → List ℕ
  args_code no_args = []
  args_code (plain e rest) = prefix_code e ++ args_code rest
  args_code (lam e rest) = prefix_code e ++ args_code rest
