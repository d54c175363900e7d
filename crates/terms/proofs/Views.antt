-- The equations of the view of terms.
use Rattle.std.proofs.Common.{◌≡◌, ℕ, List, ap, rules}
use Rattle.terms.specs.Expr.{var, head, Args, plain, lam}
use Rattle.terms.specs.View.{expr, arg, args_view}
use Rattle.terms.specs.declared.term.Term.{Term, Var, Head, the_lemmas}
use Rattle.terms.specs.declared.term.TermArg.{TermArg, Plain, Lam}

pub expr-Var : (n : ℕ) → expr (Var n) ≡ var n
expr-Var n = search (rules, the_lemmas)

pub expr-Head : (d : ℕ) (xs : List TermArg) → expr (Head d xs) ≡ head d (args_view xs)
expr-Head d xs = search (rules, the_lemmas)

plain_first : (t : Term) → arg (Plain t) ≡ plain (expr t)
plain_first t = search (rules, the_lemmas)

lam_first : (t : Term) → arg (Lam t) ≡ lam (expr t)
lam_first t = search (rules, the_lemmas)

pub arg-Plain : (t : Term) (rest : Args) → arg (Plain t) rest ≡ plain (expr t) rest
arg-Plain t rest = ap (λ f. f rest) (plain_first t)

pub arg-Lam : (t : Term) (rest : Args) → arg (Lam t) rest ≡ lam (expr t) rest
arg-Lam t rest = ap (λ f. f rest) (lam_first t)

-- what a search of a function over terms needs
pub ruleset views = (expr-Var, expr-Head, arg-Plain, arg-Lam)
