-- The equations of the prefix code.
use Rattle.std.proofs.Common.{◌≡◌, ℕ, ◌+◌, ◌*◌, ◌<◌, List, [], ◌∷◌, ◌++◌, length, get_or, drop, sym, ap, ◌∙◌, arith, append-nil}
use Rattle.std.proofs.lemmas.List.{drop_more, drop_all}
use Rattle.terms.specs.Expr.{Args, no_args}
use Rattle.terms.specs.View.{expr, arg, args_view}
use Rattle.terms.specs.Code.{prefix_code, args_code}
use Rattle.terms.proofs.Views.{expr-Var, expr-Head, arg-Plain, arg-Lam}
use Rattle.terms.specs.declared.term.Term.{Term}
use Rattle.terms.specs.declared.term.Term as code_term
use Rattle.terms.specs.declared.term.TermArg.{TermArg}
use Rattle.terms.specs.declared.term.TermArg as code

pub code-Var : (n : ℕ) → prefix_code (expr (code_term.Var n)) ≡ (2 * n) ∷ []
code-Var n = ap prefix_code (expr-Var n)

pub code-Head : (d : ℕ) (xs : List TermArg) → prefix_code (expr (code_term.Head d xs)) ≡ (2 * d + 1) ∷ args_code (args_view xs)
code-Head d xs = ap prefix_code (expr-Head d xs)

pub code-Plain : (t : Term) → args_code (args_view (code.Plain t ∷ [])) ≡ prefix_code (expr t)
code-Plain t = ap args_code (arg-Plain t no_args) ∙ append-nil (prefix_code (expr t))

pub code-Lam : (t : Term) → args_code (args_view (code.Lam t ∷ [])) ≡ prefix_code (expr t)
code-Lam t = ap args_code (arg-Lam t no_args) ∙ append-nil (prefix_code (expr t))

-- the first argument, and the others
codes-first : (a : TermArg) (rest : Args) → args_code (arg a rest) ≡ args_code (arg a no_args) ++ args_code rest
codes-first (code.Plain t) rest = ap args_code (arg-Plain t rest) ∙ ap (λ u. u ++ args_code rest) (sym (code-Plain t))
codes-first (code.Lam t) rest = ap args_code (arg-Lam t rest) ∙ ap (λ u. u ++ args_code rest) (sym (code-Lam t))

pub codes-at : (xs : List TermArg) (i : ℕ) (x : TermArg) → i < length xs → x ≡ get_or xs i x → args_code (args_view (drop i xs)) ≡ args_code (args_view (x ∷ [])) ++ args_code (args_view (drop (i + 1) xs))
codes-at xs i x l e = rw (drop_more xs i x l, ← e) (codes-first x (args_view (drop (i + 1) xs)))

pub codes-end : (xs : List TermArg) (i : ℕ) → length xs < i + 1 → args_code (args_view (drop i xs)) ≡ []
codes-end xs i l = ap (λ us. args_code (args_view us)) (drop_all i xs (omega (arith, l)))

pub ruleset coded = (code-Var, code-Head, code-Plain, code-Lam)
