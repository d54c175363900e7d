-- How large terms are: calls of a walk over a term go down by it.
use Rattle.std.proofs.Common.{◌≡◌, ℕ, zero, suc, ◌+◌, ◌<◌, ◌≤◌, List, [], ◌∷◌, length, get_or, refl, sym, ap, subst, ◌∙◌, arith}
use Rattle.terms.specs.Expr.{Expr, var, head, Args, no_args, plain, lam}
use Rattle.terms.specs.View.{expr, arg, args_view}
use Rattle.terms.proofs.Views.{expr-Head, arg-Plain, arg-Lam}
use Rattle.terms.specs.declared.term.Term.{Term}
use Rattle.terms.specs.declared.term.Term as code_term
use Rattle.terms.specs.declared.term.TermArg.{TermArg}
use Rattle.terms.specs.declared.term.TermArg as code

abbrev mutual
  -- the heads and arguments of a term
  pub size : Expr → ℕ
  size (var n) = 1
  size (head d xs) = 1 + sizes xs

  -- and of arguments
  pub sizes : Args → ℕ
  sizes no_args = 0
  sizes (plain e rest) = (1 + size e) + sizes rest
  sizes (lam e rest) = (1 + size e) + sizes rest

pub size-Head : (d : ℕ) (xs : List TermArg) (t : Term) → t ≡ code_term.Head d xs → size (expr t) ≡ 1 + sizes (args_view xs)
size-Head d xs t e = ap (λ u. size (expr u)) e ∙ ap size (expr-Head d xs)

pub size-Plain : (t : Term) (a : TermArg) → a ≡ code.Plain t → sizes (arg a no_args) ≡ 1 + size (expr t)
size-Plain t a e = ap (λ u. sizes (arg u no_args)) e ∙ ap sizes (arg-Plain t no_args) ∙ omega arith

pub size-Lam : (t : Term) (a : TermArg) → a ≡ code.Lam t → sizes (arg a no_args) ≡ 1 + size (expr t)
size-Lam t a e = ap (λ u. sizes (arg u no_args)) e ∙ ap sizes (arg-Lam t no_args) ∙ omega arith

-- an argument and the others
sizes-first : (a : TermArg) (rest : Args) → sizes (arg a rest) ≡ sizes (arg a no_args) + sizes rest
sizes-first (code.Plain t) rest = ap sizes (arg-Plain t rest) ∙ ap (λ n. n + sizes rest) (sym (size-Plain t (code.Plain t) refl))
sizes-first (code.Lam t) rest = ap sizes (arg-Lam t rest) ∙ ap (λ n. n + sizes rest) (sym (size-Lam t (code.Lam t) refl))

-- one of the arguments
pub sizes-at : (xs : List TermArg) (i : ℕ) (d : TermArg) → i < length xs → sizes (arg (get_or xs i d) no_args) ≤ sizes (args_view xs)
sizes-at [] i d l = absurd (omega arith)
sizes-at (x ∷ xs) zero d l = omega (arith, sizes-first x (args_view xs))
sizes-at (x ∷ xs) (suc i) d l = omega (arith, sizes-first x (args_view xs), sizes-at xs i d (omega arith))

pub sizes-of : (xs : List TermArg) (i : ℕ) (x : TermArg) → i < length xs → x ≡ get_or xs i x → sizes (arg x no_args) ≤ sizes (args_view xs)
sizes-of xs i x l e = subst (λ y. sizes (arg y no_args) ≤ sizes (args_view xs)) (sym e) (sizes-at xs i x l)
