-- The equations of the depth of lambdas on the code's terms.
use Rattle.std.proofs.Common.{◌≡◌, ℕ, zero, suc, ◌+◌, ◌-◌, ◌<◌, ◌≤◌, Bool, true, false, ◌&&◌, List, length, get_or, drop, refl, ◌∙◌, sym, ap, arith}
use Rattle.std.proofs.lemmas.List.{drop_more, drop_all}
use Rattle.terms.specs.Expr.{Args, no_args}
use Rattle.terms.specs.View.{expr, arg, args_view}
use Rattle.terms.specs.Place.{shallow, args_shallow}
use Rattle.terms.specs.declared.term.Term.{Term}
use Rattle.terms.specs.declared.term.Term as code_term
use Rattle.terms.specs.declared.term.TermArg.{TermArg}
use Rattle.terms.specs.declared.term.TermArg as code
use Rattle.terms.proofs.Views.{expr-Var, expr-Head, arg-Plain, arg-Lam}

pub shallow-Var : (left n : ℕ) → shallow left (expr (code_term.Var n)) ≡ true
unfolding shallow
shallow-Var left n = rw (expr-Var n) refl

pub shallow-Head : (left d : ℕ) (xs : List TermArg) → shallow left (expr (code_term.Head d xs)) ≡ args_shallow left (args_view xs)
unfolding shallow
shallow-Head left d xs = rw (expr-Head d xs) refl

and_true : (a : Bool) → a && true ≡ a
and_true true = refl
and_true false = refl

pub shallow-Plain : (left : ℕ) (t : Term) → args_shallow left (arg (code.Plain t) no_args) ≡ shallow left (expr t)
unfolding args_shallow
shallow-Plain left t = rw (arg-Plain t no_args) (and_true (shallow left (expr t)))

pub shallow-Lam-none : (t : Term) → args_shallow 0 (arg (code.Lam t) no_args) ≡ false
unfolding args_shallow
shallow-Lam-none t = rw (arg-Lam t no_args) refl

pub shallow-Lam : (left : ℕ) (t : Term) → 0 < left → args_shallow left (arg (code.Lam t) no_args) ≡ shallow (left - 1) (expr t)
unfolding args_shallow
shallow-Lam zero t some = absurd (omega (arith, some))
shallow-Lam (suc left) t some = let e : suc left - 1 ≡ left = omega arith in rw (arg-Lam t no_args, e) (and_true (shallow left (expr t)))

and_middle : (a b : Bool) → a && b ≡ (a && true) && b
and_middle true b = refl
and_middle false b = refl

shallow-first : (left : ℕ) (a : TermArg) (rest : Args) → args_shallow left (arg a rest) ≡ args_shallow left (arg a no_args) && args_shallow left rest
unfolding args_shallow
shallow-first left (code.Plain t) rest = rw (arg-Plain t rest, arg-Plain t no_args) (and_middle (shallow left (expr t)) (args_shallow left rest))
shallow-first zero (code.Lam t) rest = rw (arg-Lam t rest, arg-Lam t no_args) refl
shallow-first (suc left) (code.Lam t) rest = rw (arg-Lam t rest, arg-Lam t no_args) (and_middle (shallow left (expr t)) (args_shallow (suc left) rest))

shallow-at : (left : ℕ) (xs : List TermArg) (i : ℕ) (x : TermArg) → i < length xs → x ≡ get_or xs i x
    → args_shallow left (args_view (drop i xs)) ≡ args_shallow left (arg x no_args) && args_shallow left (args_view (drop (i + 1) xs))
shallow-at left xs i x here is = rw (drop_more xs i x here) (shallow-first left (get_or xs i x) (args_view (drop (i + 1) xs)) ∙ ap (λ y. args_shallow left (arg y no_args) && args_shallow left (args_view (drop (i + 1) xs))) (sym is))

pub shallow-stop : (left : ℕ) (xs : List TermArg) (i : ℕ) (x : TermArg) → i < length xs → x ≡ get_or xs i x → args_shallow left (arg x no_args) ≡ false → args_shallow left (args_view (drop i xs)) ≡ false
shallow-stop left xs i x here is bad = shallow-at left xs i x here is ∙ rw bad refl

pub shallow-go : (left : ℕ) (xs : List TermArg) (i : ℕ) (x : TermArg) → i < length xs → x ≡ get_or xs i x → args_shallow left (arg x no_args) ≡ true
    → args_shallow left (args_view (drop i xs)) ≡ args_shallow left (args_view (drop (i + 1) xs))
shallow-go left xs i x here is good = shallow-at left xs i x here is ∙ rw good refl

pub shallow-end : (left : ℕ) (xs : List TermArg) (i : ℕ) → length xs ≤ i → args_shallow left (args_view (drop i xs)) ≡ true
unfolding args_shallow
shallow-end left xs i past = rw (drop_all i xs past) refl

pub ruleset depths = (shallow-Var, shallow-Head, shallow-Plain, shallow-Lam-none, shallow-Lam)
