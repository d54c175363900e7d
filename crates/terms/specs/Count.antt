-- Equality of terms as a test, and how often a term stands in a list.
use Rattle.std.specs.Prelude.{ℕ, ◌+◌, ◌≤◌, Bool, true, false, ◌&&◌, ◌==◌, List, [], ◌∷◌}
use Rattle.terms.specs.Expr.{Expr, var, head, Args, no_args, plain, lam}

abbrev mutual
  -- whether two terms are the same
  pub expr_eq : Expr → Expr → Bool
  expr_eq (var m) (var n) = m == n
  expr_eq (head c xs) (head d ys) = (c == d) && args_eq xs ys
  expr_eq _ _ = false

  -- whether two lists of arguments are the same
  pub args_eq : Args → Args → Bool
  args_eq no_args no_args = true
  args_eq (plain e xs) (plain f ys) = expr_eq e f && args_eq xs ys
  args_eq (lam e xs) (lam f ys) = expr_eq e f && args_eq xs ys
  args_eq _ _ = false

-- 1 where it holds, else 0
abbrev pub once_if : Bool → ℕ
once_if true = 1
once_if false = 0

-- how many elements pass the test
abbrev pub count : {X : Type 0} → (X → Bool) → List X → ℕ
count p [] = 0
count p (x ∷ xs) = once_if (p x) + count p xs

-- the term stands in the list
abbrev pub Stands : Expr → List Expr → Type 0
Stands e es = 1 ≤ count (expr_eq e) es

-- a number summed over a list
abbrev pub total : {X : Type 0} → (X → ℕ) → List X → ℕ
total f [] = 0
total f (x ∷ xs) = f x + total f xs
