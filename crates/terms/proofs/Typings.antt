-- The equations of the typing rules on the code's terms.
use Rattle.std.proofs.Common.{◌≡◌, ◌≢◌, ℕ, suc, ◌≤◌, ◌&&◌, ap, ◌∙◌, slice_get, arith, List, [], ◌∷◌, refl, Bool, true, false, ◌++◌, length, nat_lt}
use Rattle.terms.specs.Expr.{Args, no_args}
use Rattle.terms.specs.View.{expr, arg, args_view}
use Rattle.terms.specs.Typing.{type_in, fits, joined, some_below, result_if, args_wanted, rows}
use Rattle.terms.proofs.Views.{expr-Var, expr-Head, arg-Plain, arg-Lam}
use Rattle.terms.specs.declared.parts.Parts.{Parts}
use Rattle.terms.specs.declared.parts.Arg.{Arg}
use Rattle.terms.specs.declared.parts.Arg.TheVariants.{Plain, Fun}
use Rattle.terms.specs.declared.term.Term.{Term}
use Rattle.terms.specs.declared.term.TermArg.{TermArg}
use Rattle.terms.specs.declared.term.TermArg as code
use Rattle.terms.specs.declared.term.Term as code_term
use Rattle.terms.specs.declared.context.Ctx.{Ctx}

-- a variable, and a declaration with its arguments
pub type_in-Var : (g : Parts) (ctx : List (List ℕ)) (n : ℕ) → type_in g ctx (expr (code_term.Var n)) ≡ slice_get (joined ctx) n
unfolding type_in
type_in-Var g ctx n = rw (expr-Var n) refl

pub type_in-Head : (g : Parts) (ctx : List (List ℕ)) (d : ℕ) (xs : List TermArg) → type_in g ctx (expr (code_term.Head d xs)) ≡ result_if (slice_get g.decls d) (fits g ctx (args_view xs) (args_wanted (slice_get g.decls d)))
unfolding type_in
type_in-Head g ctx d xs = rw (expr-Head d xs) refl

-- a context of the code has as many rows as it uses
pub length-rows : (c : Ctx) → c.used ≤ 3 → length (rows c) ≡ c.used
unfolding rows
length-rows c h = grind arith

and_true : (a : Bool) → a && true ≡ a
and_true true = refl
and_true false = refl

and_false : (a : Bool) → a && false ≡ false
and_false true = refl
and_false false = refl

and_middle : (a b : Bool) → a && b ≡ (a && true) && b
and_middle true b = refl
and_middle false b = refl

-- whether the first argument fits its place
abbrev fits_first : Parts → List (List ℕ) → TermArg → Arg → Bool
fits_first g ctx a w = fits g ctx (arg a no_args) (w ∷ [])

-- the first argument, and the others
pub fits-first : (g : Parts) (ctx : List (List ℕ)) (a : TermArg) (rest : Args) (w : Arg) (more : List Arg) → fits g ctx (arg a rest) (w ∷ more) ≡ fits g ctx (arg a no_args) (w ∷ []) && fits g ctx rest more
unfolding fits
fits-first g ctx (code.Plain t) rest (Plain b) more = rw (arg-Plain t rest, arg-Plain t no_args) (and_middle (some_below g (type_in g ctx (expr t)) b) (fits g ctx rest more))
fits-first g ctx (code.Plain t) rest (Fun ps r) more = rw (arg-Plain t rest, arg-Plain t no_args) refl
fits-first g ctx (code.Lam t) rest (Plain b) more = rw (arg-Lam t rest, arg-Lam t no_args) refl
fits-first g ctx (code.Lam t) rest (Fun ps r) more = rw (arg-Lam t rest, arg-Lam t no_args) (and_middle (nat_lt (length ctx) 3 && some_below g (type_in g (ctx ++ ps ∷ []) (expr t)) r) (fits g ctx rest more))

-- nothing fits where the numbers of arguments differ
pub fits-apart : (g : Parts) (ctx : List (List ℕ)) (xs : List TermArg) (ws : List Arg) → length xs ≢ length ws → fits g ctx (args_view xs) ws ≡ false
unfolding fits
fits-apart g ctx [] [] h = absurd (h refl)
fits-apart g ctx [] (w ∷ ws) h = refl
fits-apart g ctx (code.Plain t ∷ xs) [] h = rw (arg-Plain t (args_view xs)) refl
fits-apart g ctx (code.Lam t ∷ xs) [] h = rw (arg-Lam t (args_view xs)) refl
fits-apart g ctx (x ∷ xs) (w ∷ ws) h = fits-first g ctx x (args_view xs) w ws ∙ rw (fits-apart g ctx xs ws (λ e. h (ap (λ n. suc n) e))) (and_false (fits_first g ctx x w))
