-- The equations of a rating: the type and the weight of a term at once.
use Rattle.std.proofs.Common.{◌≡◌, ◌≢◌, inl, inr, ℕ, ◌+◌, ◌<◌, ◌≤◌, Bool, true, false, ◌&&◌, if◌then◌else◌, nat_lt, List, [], ◌∷◌, ◌++◌, length, get_or, drop, slice_get, Option, Some, None, refl, sym, ap, ◌∙◌, add-zero, arith}
use Rattle.std.proofs.lemmas.Bool.{cases_lt, le-ltb, lt-ltb}
use Rattle.std.proofs.lemmas.List.{drop_more, drop_all}
use Rattle.terms.specs.Expr.{Expr, Args, no_args}
use Rattle.terms.specs.View.{expr, arg, args_view}
use Rattle.terms.specs.Typing.{type_in, fits, joined, result_if, args_wanted, some_below, is_below}
use Rattle.terms.specs.Weights.{variable_weight, binders_weight, weight_in, args_weight, decl_weight, step_in, told}
use Rattle.terms.specs.declared.parts.Parts.{Parts}
use Rattle.terms.specs.declared.parts.Decl.{Decl}
use Rattle.terms.specs.declared.parts.Arg.{Arg}
use Rattle.terms.specs.declared.parts.Arg.TheVariants.{Plain, Fun}
use Rattle.terms.specs.declared.rating.Rating.{Rating}
use Rattle.terms.specs.declared.term.Term.{Term}
use Rattle.terms.specs.declared.term.Term as code_term
use Rattle.terms.specs.declared.term.TermArg.{TermArg}
use Rattle.terms.specs.declared.term.TermArg as code
use Rattle.terms.proofs.Views.{expr-Var, expr-Head, arg-Plain, arg-Lam}
use Rattle.terms.proofs.Typings.{length-rows, fits-apart}
use Rattle.terms.specs.Rating.{capped, with_weight, rated, capped_if, rated_args, rated_arg, at_place, over, plus}

over_is : (o : Option Decl) (fit : Bool) (more : ℕ) → with_weight (result_if o fit) (decl_weight o + more) ≡ over o (capped_if fit more)
over_is None fit more = refl
over_is (Some d) false more = refl
over_is (Some d) true more = let e : capped (d.weight + more) ≡ capped (d.weight + capped more) = omega arith in ap (λ w. Some (record { result = d.result; weight = w })) e

place_is : (g : Parts) (t : Option ℕ) (w b n : ℕ) → capped_if (some_below g t b && true) (w + n + step_in g t b + 0) ≡ at_place g (with_weight t w) b n
place_is g None w b n = refl
place_is g (Some a) w b n = go (is_below g a b) (step_in g (Some a) b)
  where
    go : (below : Bool) (s : ℕ) → capped_if (below && true) (w + n + s + 0) ≡ (if below then Some (capped (capped w + n + s)) else None)
    go true s = let e : capped (w + n + s + 0) ≡ capped (capped w + n + s) = omega arith in ap (λ x. Some x) e
    go false s = refl

plus_is : (x y : Bool) (a b : ℕ) → capped_if (x && y) (a + b) ≡ plus (capped_if x a) (capped_if y b)
plus_is true true a b = let e : capped (a + b) ≡ capped (capped a + capped b) = omega arith in ap (λ n. Some n) e
plus_is true false a b = refl
plus_is false y a b = refl

alone : (b : Bool) (w : ℕ) → capped_if b w ≡ capped_if (b && true) (w + 0)
alone true w = ap (λ n. Some (capped n)) (sym (add-zero w))
alone false w = refl

pub rated-Var : (g : Parts) (ctx : List (List ℕ)) (n : ℕ) → rated g ctx (expr (code_term.Var n)) ≡ with_weight (slice_get (joined ctx) n) (variable_weight g)
unfolding rated type_in weight_in
rated-Var g ctx n = rw (expr-Var n) refl

pub rated-Head : (g : Parts) (ctx : List (List ℕ)) (d : ℕ) (xs : List TermArg) → rated g ctx (expr (code_term.Head d xs)) ≡ over (slice_get g.decls d) (rated_args g ctx (args_view xs) (args_wanted (slice_get g.decls d)))
unfolding rated rated_args type_in weight_in
rated-Head g ctx d xs = rw (expr-Head d xs) (over_is (slice_get g.decls d) (fits g ctx (args_view xs) (args_wanted (slice_get g.decls d))) (args_weight g ctx (args_view xs) (args_wanted (slice_get g.decls d))))

-- a place takes what is rated there
pub rated_arg-Plain : (g : Parts) (ctx : List (List ℕ)) (t : Term) (b : ℕ) → rated_arg g ctx (code.Plain t) (Plain b) ≡ at_place g (rated g ctx (expr t)) b 0
unfolding rated_arg rated_args rated fits args_weight
rated_arg-Plain g ctx t b = rw (arg-Plain t no_args)
    (ap (λ n. capped_if (some_below g (type_in g ctx (expr t)) b && true) (n + step_in g (type_in g ctx (expr t)) b + 0)) (sym (add-zero (weight_in g ctx (expr t)))) ∙ place_is g (type_in g ctx (expr t)) (weight_in g ctx (expr t)) b 0)

pub rated_arg-Lam : (g : Parts) (ctx : List (List ℕ)) (t : Term) (ps : List ℕ) (r : ℕ) → length ctx < 3 → rated_arg g ctx (code.Lam t) (Fun ps r) ≡ at_place g (rated g (ctx ++ ps ∷ []) (expr t)) r (binders_weight g (length ps))
unfolding rated_arg rated_args rated fits args_weight
rated_arg-Lam g ctx t ps r short = rw (arg-Lam t no_args, lt-ltb (length ctx) 3 short) (place_is g (type_in g (ctx ++ ps ∷ []) (expr t)) (weight_in g (ctx ++ ps ∷ []) (expr t)) r (binders_weight g (length ps)))

pub rated_arg-deep : (g : Parts) (ctx : List (List ℕ)) (t : Term) (ps : List ℕ) (r : ℕ) → 3 ≤ length ctx → rated_arg g ctx (code.Lam t) (Fun ps r) ≡ None
unfolding rated_arg rated_args fits args_weight
rated_arg-deep g ctx t ps r deep = rw (arg-Lam t no_args, le-ltb (length ctx) 3 deep) refl

pub rated_arg-Plain-Fun : (g : Parts) (ctx : List (List ℕ)) (t : Term) (ps : List ℕ) (r : ℕ) → rated_arg g ctx (code.Plain t) (Fun ps r) ≡ None
unfolding rated_arg rated_args fits
rated_arg-Plain-Fun g ctx t ps r = rw (arg-Plain t no_args) refl

pub rated_arg-Lam-Plain : (g : Parts) (ctx : List (List ℕ)) (t : Term) (b : ℕ) → rated_arg g ctx (code.Lam t) (Plain b) ≡ None
unfolding rated_arg rated_args fits
rated_arg-Lam-Plain g ctx t b = rw (arg-Lam t no_args) refl

pub rated_args-apart : (g : Parts) (ctx : List (List ℕ)) (xs : List TermArg) (ws : List Arg) → length xs ≢ length ws → rated_args g ctx (args_view xs) ws ≡ None
unfolding rated_args
rated_args-apart g ctx xs ws h = rw (fits-apart g ctx xs ws h) refl

pub rated_args-first : (g : Parts) (ctx : List (List ℕ)) (a : TermArg) (rest : Args) (w : Arg) (more : List Arg) → rated_args g ctx (arg a rest) (w ∷ more) ≡ plus (rated_arg g ctx a w) (rated_args g ctx rest more)
unfolding rated_arg rated_args fits args_weight
rated_args-first g ctx (code.Plain t) rest (Plain b) more = rw (arg-Plain t rest, arg-Plain t no_args)
    (plus_is (some_below g (type_in g ctx (expr t)) b) (fits g ctx rest more) (weight_in g ctx (expr t) + step_in g (type_in g ctx (expr t)) b) (args_weight g ctx rest more)
    ∙ ap (λ r. plus r (capped_if (fits g ctx rest more) (args_weight g ctx rest more))) (alone (some_below g (type_in g ctx (expr t)) b) (weight_in g ctx (expr t) + step_in g (type_in g ctx (expr t)) b)))
rated_args-first g ctx (code.Plain t) rest (Fun ps r) more = rw (arg-Plain t rest, arg-Plain t no_args) refl
rated_args-first g ctx (code.Lam t) rest (Plain b) more = rw (arg-Lam t rest, arg-Lam t no_args) refl
rated_args-first g ctx (code.Lam t) rest (Fun ps r) more =
    let inner = ctx ++ ps ∷ [] in
    let good = nat_lt (length ctx) 3 && some_below g (type_in g inner (expr t)) r in
    let weighs = weight_in g inner (expr t) + binders_weight g (length ps) + step_in g (type_in g inner (expr t)) r in
    rw (arg-Lam t rest, arg-Lam t no_args)
    (plus_is good (fits g ctx rest more) weighs (args_weight g ctx rest more) ∙ ap (λ q. plus q (capped_if (fits g ctx rest more) (args_weight g ctx rest more))) (alone good weighs))

-- the arguments from the i-th on
pub rated_args-at : (g : Parts) (ctx : List (List ℕ)) (xs : List TermArg) (ws : List Arg) (i : ℕ) (x : TermArg) (w : Arg) → i < length xs → i < length ws → x ≡ get_or xs i x → w ≡ get_or ws i w
    → rated_args g ctx (args_view (drop i xs)) (drop i ws) ≡ plus (rated_arg g ctx x w) (rated_args g ctx (args_view (drop (i + 1) xs)) (drop (i + 1) ws))
rated_args-at g ctx xs ws i x w hx hw is_x is_w =
    rw (drop_more xs i x hx, drop_more ws i w hw) (rated_args-first g ctx (get_or xs i x) (args_view (drop (i + 1) xs)) (get_or ws i w) (drop (i + 1) ws)
    ∙ ap (λ y. plus (rated_arg g ctx y (get_or ws i w)) (rated_args g ctx (args_view (drop (i + 1) xs)) (drop (i + 1) ws))) (sym is_x)
    ∙ ap (λ v. plus (rated_arg g ctx x v) (rated_args g ctx (args_view (drop (i + 1) xs)) (drop (i + 1) ws))) (sym is_w))

pub rated_args-end : (g : Parts) (ctx : List (List ℕ)) (xs : List TermArg) (ws : List Arg) (i : ℕ) → length xs ≤ i → length ws ≤ i → rated_args g ctx (args_view (drop i xs)) (drop i ws) ≡ Some 0
unfolding rated_args fits args_weight
rated_args-end g ctx xs ws i hx hw = rw (drop_all i xs hx, drop_all i ws hw) refl

-- sums begin at 0
pub plus_zero : (g : Parts) (ctx : List (List ℕ)) (xs : Args) (ws : List Arg) → rated_args g ctx xs ws ≡ plus (Some 0) (rated_args g ctx xs ws)
unfolding rated_args
plus_zero g ctx xs ws = go (fits g ctx xs ws) (args_weight g ctx xs ws)
  where
    go : (b : Bool) (n : ℕ) → capped_if b n ≡ plus (Some 0) (capped_if b n)
    go true n = let e : capped n ≡ capped (0 + capped n) = omega arith in ap (λ m. Some m) e
    go false n = refl

plus_more : (s m : ℕ) (r : Option ℕ) → plus (Some s) (plus (Some m) r) ≡ plus (Some (capped (s + m))) r
plus_more s m None = refl
plus_more s m (Some n) = let e : capped (s + capped (m + n)) ≡ capped (capped (s + m) + n) = omega arith in ap (λ k. Some k) e

pub plus_end : (s : ℕ) → s ≤ 4294967296 → plus (Some s) (Some 0) ≡ Some s
plus_end s h = let e : capped (s + 0) ≡ s = omega arith in ap (λ k. Some k) e

pub rated_args-stop : (g : Parts) (ctx : List (List ℕ)) (xs : List TermArg) (ws : List Arg) (i : ℕ) (x : TermArg) (w : Arg) (s : ℕ) → i < length xs → i < length ws → x ≡ get_or xs i x → w ≡ get_or ws i w
    → rated_arg g ctx x w ≡ None → plus (Some s) (rated_args g ctx (args_view (drop i xs)) (drop i ws)) ≡ None
rated_args-stop g ctx xs ws i x w s hx hw is_x is_w here = rw (rated_args-at g ctx xs ws i x w hx hw is_x is_w, here) refl

pub rated_args-go : (g : Parts) (ctx : List (List ℕ)) (xs : List TermArg) (ws : List Arg) (i : ℕ) (x : TermArg) (w : Arg) (s m n : ℕ) → i < length xs → i < length ws → x ≡ get_or xs i x → w ≡ get_or ws i w
    → rated_arg g ctx x w ≡ Some m → n ≡ capped (s + m) → plus (Some s) (rated_args g ctx (args_view (drop i xs)) (drop i ws)) ≡ plus (Some n) (rated_args g ctx (args_view (drop (i + 1) xs)) (drop (i + 1) ws))
rated_args-go g ctx xs ws i x w s m n hx hw is_x is_w here next =
    rw (rated_args-at g ctx xs ws i x w hx hw is_x is_w, here, next) (plus_more s m (rated_args g ctx (args_view (drop (i + 1) xs)) (drop (i + 1) ws)))

pub ruleset rating = (rated-Var, rated-Head, rated_arg-Plain, rated_arg-Lam, rated_arg-deep, rated_arg-Plain-Fun, rated_arg-Lam-Plain, rated_args-apart, length-rows)

-- what a rating says of the type and of the weight that is told
abbrev result_in : Option Rating → Option ℕ
result_in None = None
result_in (Some r) = Some r.result

abbrev weight_or_none : Option Rating → ℕ
weight_or_none None = 0
weight_or_none (Some r) = r.weight

result_is : (t : Option ℕ) (w : ℕ) → result_in (with_weight t w) ≡ t
result_is None w = refl
result_is (Some a) w = refl

pub type_of_rated : (g : Parts) (ctx : List (List ℕ)) (e : Expr) (r : Option Rating) → r ≡ rated g ctx e → result_in r ≡ type_in g ctx e
unfolding rated
type_of_rated g ctx e r is = ap result_in is ∙ result_is (type_in g ctx e) (weight_in g ctx e)

told_capped : (b w : ℕ) → b ≡ capped w → (if nat_lt b 4294967296 then Some b else None) ≡ (if nat_lt w 4294967296 then Some w else None)
told_capped b w h = elim (cases_lt w 4294967296) [
  | inl small ↦ let e : b ≡ w = omega arith in rw e refl
  | inr large ↦ let e : b ≡ 4294967296 = omega arith in rw (e, le-ltb w 4294967296 large) refl
]

told_some : (t : Option ℕ) (w : ℕ) (r : Rating) → Some r ≡ with_weight t w → (if nat_lt r.weight 4294967296 then Some r.weight else None) ≡ told t w
told_some None w r h = cc
told_some (Some t) w r h = told_capped r.weight w (ap weight_or_none h)

told_none : (t : Option ℕ) (w : ℕ) → None ≡ with_weight t w → None ≡ told t w
told_none None w h = refl
told_none (Some t) w h = cc

-- the weight of what was rated, where there is a type
pub weight_of_rated : (g : Parts) (ctx : List (List ℕ)) (e : Expr) (r : Rating) → Some r ≡ rated g ctx e → (if nat_lt r.weight 4294967296 then Some r.weight else None) ≡ told (type_in g ctx e) (weight_in g ctx e)
unfolding rated
weight_of_rated g ctx e r is = told_some (type_in g ctx e) (weight_in g ctx e) r is

-- and where there is none
pub weight_of_none : (g : Parts) (ctx : List (List ℕ)) (e : Expr) → None ≡ rated g ctx e → None ≡ told (type_in g ctx e) (weight_in g ctx e)
unfolding rated
weight_of_none g ctx e is = told_none (type_in g ctx e) (weight_in g ctx e) is
