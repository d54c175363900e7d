-- Terms as the definitions see them: variables, and declarations with their arguments (PLDI 2013, section 3).
use Rattle.std.specs.Prelude.{ℕ}

mutual
  pub data Expr : Type 0 where
    var : ℕ → Expr
    head : ℕ → Args → Expr

  -- an argument is a term, or a term under the binders of a lambda
  pub data Args : Type 0 where
    no_args : Args
    plain : Expr → Args → Args
    lam : Expr → Args → Args
