-- The equations of printing, form by form and place by place.
use Rattle.std.proofs.Common.{◌≡◌, ◌≢◌, ℕ, suc, ◌+◌, ◌<◌, ◌≤◌, ◌&&◌, ◌||◌, not, ap, sym, subst, ◌∙◌, get_or, drop, slice_get, arith, List, [], ◌∷◌, refl, Bool, true, false, ◌++◌, length, nat_lt, Option, Some, None, if◌then◌else◌, append_assoc}
use Rattle.std.proofs.lemmas.Bool.{and_parts, false≢true}
use Rattle.terms.specs.Expr.{Args, no_args, var, head}
use Rattle.terms.specs.View.{expr, arg, args_view}
use Rattle.terms.specs.Typing.{type_in, fits, joined, some_below, result_if, args_wanted, rows}
use Rattle.terms.specs.Text.{text_in, printed, Printed, decl_text, variable_text, is_crowded, cast_of, is_this, is_lambda, head_decl, form_text, binders_text, parameters, with_cast, argument_text, bracketed}
use Rattle.terms.proofs.Views.{expr-Var, expr-Head, arg-Plain, arg-Lam}
use Rattle.terms.proofs.Typings.{type_in-Var, type_in-Head, length-rows, fits-first, fits-apart}
use Rattle.terms.specs.declared.parts.Parts.{Parts}
use Rattle.terms.specs.declared.parts.Decl.{Decl}
use Rattle.terms.specs.declared.parts.Arg.{Arg}
use Rattle.terms.specs.declared.parts.Arg.TheVariants.{Plain, Fun}
use Rattle.terms.specs.declared.term.Term.{Term}
use Rattle.terms.specs.declared.term.TermArg.{TermArg}
use Rattle.terms.specs.declared.term.TermArg as code
use Rattle.terms.specs.declared.term.Term as code_term
use Rattle.java_print.specs.Pieces.{at_place, suits_place, cast_text, is_first_bare}

-- a variable, and a declaration with its arguments
pub text_in-Var : (g : Parts) (ctx : List (List ℕ)) (n : ℕ) → text_in g ctx (expr (code_term.Var n)) ≡ variable_text g n
unfolding text_in
text_in-Var g ctx n = rw (expr-Var n) refl

pub text_in-Head : (g : Parts) (ctx : List (List ℕ)) (d : ℕ) (xs : List TermArg) → text_in g ctx (expr (code_term.Head d xs)) ≡ decl_text g (length (joined ctx)) (slice_get g.decls d) (printed g ctx (is_crowded (slice_get g.decls d)) (args_view xs) (args_wanted (slice_get g.decls d)))
unfolding text_in
text_in-Head g ctx d xs = rw (expr-Head d xs) refl

pub head_decl-Var : (g : Parts) (n : ℕ) → head_decl g (expr (code_term.Var n)) ≡ None
head_decl-Var g n = rw (expr-Var n) refl

pub head_decl-Head : (g : Parts) (d : ℕ) (xs : List TermArg) → head_decl g (expr (code_term.Head d xs)) ≡ slice_get g.decls d
head_decl-Head g d xs = rw (expr-Head d xs) refl

and_true : (a : Bool) → a && true ≡ a
and_true true = refl
and_true false = refl

-- an argument at each kind of place
pub suits_place-Plain : (g : Parts) (ctx : List (List ℕ)) (t : Term) (b : ℕ) → suits_place g ctx (code.Plain t) (Plain b) ≡ some_below g (type_in g ctx (expr t)) b
unfolding fits suits_place
suits_place-Plain g ctx t b = rw (arg-Plain t no_args) (and_true (some_below g (type_in g ctx (expr t)) b))

pub suits_place-Plain-Fun : (g : Parts) (ctx : List (List ℕ)) (t : Term) (ps : List ℕ) (r : ℕ) → suits_place g ctx (code.Plain t) (Fun ps r) ≡ false
unfolding fits suits_place
suits_place-Plain-Fun g ctx t ps r = rw (arg-Plain t no_args) refl

pub suits_place-Lam-Plain : (g : Parts) (ctx : List (List ℕ)) (t : Term) (b : ℕ) → suits_place g ctx (code.Lam t) (Plain b) ≡ false
unfolding fits suits_place
suits_place-Lam-Plain g ctx t b = rw (arg-Lam t no_args) refl

pub suits_place-Lam : (g : Parts) (ctx : List (List ℕ)) (t : Term) (ps : List ℕ) (r : ℕ) → suits_place g ctx (code.Lam t) (Fun ps r) ≡ nat_lt (length ctx) 3 && some_below g (type_in g (ctx ++ ps ∷ []) (expr t)) r
unfolding fits suits_place
suits_place-Lam g ctx t ps r = rw (arg-Lam t no_args) (and_true (nat_lt (length ctx) 3 && some_below g (type_in g (ctx ++ ps ∷ []) (expr t)) r))

pub at_place-Plain : (g : Parts) (ctx : List (List ℕ)) (c : Bool) (t : Term) (b : ℕ) → at_place g ctx c (code.Plain t) (Plain b) ≡ record { text = text_in g ctx (expr t); cast = cast_of g c (type_in g ctx (expr t)) b; this = is_this (head_decl g (expr t)); lambda = is_lambda (head_decl g (expr t)) } ∷ []
unfolding printed at_place
at_place-Plain g ctx c t b = rw (arg-Plain t no_args) refl

pub at_place-Lam : (g : Parts) (ctx : List (List ℕ)) (c : Bool) (t : Term) (ps : List ℕ) (r : ℕ) → at_place g ctx c (code.Lam t) (Fun ps r) ≡ record { text = text_in g (ctx ++ ps ∷ []) (expr t); cast = cast_of g c (type_in g (ctx ++ ps ∷ []) (expr t)) r; this = false; lambda = false } ∷ []
unfolding printed at_place
at_place-Lam g ctx c t ps r = rw (arg-Lam t no_args) refl

pub at_place-Plain-Fun : (g : Parts) (ctx : List (List ℕ)) (c : Bool) (t : Term) (ps : List ℕ) (r : ℕ) → at_place g ctx c (code.Plain t) (Fun ps r) ≡ []
unfolding printed at_place
at_place-Plain-Fun g ctx c t ps r = rw (arg-Plain t no_args) refl

pub at_place-Lam-Plain : (g : Parts) (ctx : List (List ℕ)) (c : Bool) (t : Term) (b : ℕ) → at_place g ctx c (code.Lam t) (Plain b) ≡ []
unfolding printed at_place
at_place-Lam-Plain g ctx c t b = rw (arg-Lam t no_args) refl

-- a lambda's body is never `this`
pub bare-Lam : (g : Parts) (ctx : List (List ℕ)) (c : Bool) (t : Term) (w : Arg) → is_first_bare (at_place g ctx c (code.Lam t) w) ≡ false
bare-Lam g ctx c t (Plain b) = rw (at_place-Lam-Plain g ctx c t b) refl
bare-Lam g ctx c t (Fun ps r) = rw (at_place-Lam g ctx c t ps r) refl

-- what is below a type is one
pub below_some : (g : Parts) (o : Option ℕ) (b : ℕ) → some_below g o b ≡ true → o ≢ None
below_some g None b h = λ e. false≢true h
below_some g (Some a) b h = λ e. cc

pub typed-Plain : (g : Parts) (ctx : List (List ℕ)) (t : Term) (b : ℕ) → suits_place g ctx (code.Plain t) (Plain b) ≡ true → type_in g ctx (expr t) ≢ None
typed-Plain g ctx t b h = below_some g (type_in g ctx (expr t)) b (sym (suits_place-Plain g ctx t b) ∙ h)

pub typed-Lam : (g : Parts) (ctx : List (List ℕ)) (t : Term) (ps : List ℕ) (r : ℕ) → suits_place g ctx (code.Lam t) (Fun ps r) ≡ true → type_in g (ctx ++ ps ∷ []) (expr t) ≢ None
typed-Lam g ctx t ps r h = below_some g (type_in g (ctx ++ ps ∷ []) (expr t)) r (and_parts (nat_lt (length ctx) 3) (some_below g (type_in g (ctx ++ ps ∷ []) (expr t)) r) (sym (suits_place-Lam g ctx t ps r) ∙ h)).1

lt_true : (n m : ℕ) → nat_lt n m ≡ true → n < m
lt_true n m h = grind arith

pub room-Lam : (g : Parts) (ctx : List (List ℕ)) (t : Term) (ps : List ℕ) (r : ℕ) → suits_place g ctx (code.Lam t) (Fun ps r) ≡ true → length ctx < 3
room-Lam g ctx t ps r h = lt_true (length ctx) 3 (and_parts (nat_lt (length ctx) 3) (some_below g (type_in g (ctx ++ ps ∷ []) (expr t)) r) (sym (suits_place-Lam g ctx t ps r) ∙ h)).0

-- a declaration with a type: its arguments fit, and the type is its result
pub some_fits : (o : Option Decl) (b : Bool) → result_if o b ≢ None → b ≡ true
some_fits None b h = absurd (h refl)
some_fits (Some d) true h = refl
some_fits (Some d) false h = absurd (h refl)

pub result-Head : (g : Parts) (ctx : List (List ℕ)) (d : ℕ) (xs : List TermArg) (decl : Decl) → slice_get g.decls d ≡ Some decl → type_in g ctx (expr (code_term.Head d xs)) ≢ None → type_in g ctx (expr (code_term.Head d xs)) ≡ Some decl.result
result-Head g ctx d xs decl is h =
    let b = fits g ctx (args_view xs) (args_wanted (slice_get g.decls d)) in
    let yes : b ≡ true = some_fits (slice_get g.decls d) b (λ e. h (type_in-Head g ctx d xs ∙ e)) in
    type_in-Head g ctx d xs ∙ rw (yes, is) refl

pub none-Head : (g : Parts) (ctx : List (List ℕ)) (d : ℕ) (xs : List TermArg) → slice_get g.decls d ≡ None → type_in g ctx (expr (code_term.Head d xs)) ≡ None
none-Head g ctx d xs is = type_in-Head g ctx d xs ∙ rw is refl

pub fits-Head : (g : Parts) (ctx : List (List ℕ)) (d : ℕ) (xs : List TermArg) (decl : Decl) → slice_get g.decls d ≡ Some decl → type_in g ctx (expr (code_term.Head d xs)) ≢ None → fits g ctx (args_view xs) decl.args ≡ true
fits-Head g ctx d xs decl is h =
    let P : Option Decl → Type 0 = λ o. fits g ctx (args_view xs) (args_wanted o) ≡ true in
    subst P is (some_fits (slice_get g.decls d) (fits g ctx (args_view xs) (args_wanted (slice_get g.decls d))) (λ e. h (type_in-Head g ctx d xs ∙ e)))

pub text-Head : (g : Parts) (ctx : List (List ℕ)) (d : ℕ) (xs : List TermArg) (decl : Decl) → slice_get g.decls d ≡ Some decl → text_in g ctx (expr (code_term.Head d xs)) ≡ form_text decl.form (binders_text g (length (joined ctx)) (parameters decl.args)) (printed g ctx decl.crowded (args_view xs) decl.args)
text-Head g ctx d xs decl is = text_in-Head g ctx d xs ∙ rw is refl

-- a cast and the term after it
pub cast_then : (c : Option (List ℕ)) (t : List ℕ) → with_cast c t ≡ cast_text c ++ t
cast_then None t = refl
cast_then (Some c) t = sym (append_assoc (bracketed c) (32 ∷ []) t)

pub ruleset printing = (type_in-Var, text_in-Var, head_decl-Var, head_decl-Head, suits_place-Plain-Fun, suits_place-Lam-Plain, at_place-Plain, at_place-Lam, at_place-Plain-Fun, at_place-Lam-Plain, length-rows, typed-Plain, typed-Lam, room-Lam, result-Head, none-Head, fits-Head, text-Head, cast_then, bare-Lam)
