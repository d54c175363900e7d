-- Each term that may stand at a place is made exactly once.
use Rattle.std.proofs.Common.{◌≡◌, ◌≢◌, inl, inr, ℕ, zero, suc, ◌+◌, ◌-◌, ◌*◌, ◌<◌, ◌≤◌, Bool, true, false, ◌&&◌, ◌==◌, nat_le, cond, List, [], ◌∷◌, ◌++◌, length, map, slice_get, Option, None, Some, refl, sym, ap, ◌∙◌, add-zero, zero-add, arith}
use Rattle.std.proofs.Math.Nat.{one-mul, zero-mul}
use Rattle.std.proofs.lemmas.Bool.{cases_lt, cases_eq, eq-eqb, ne_eqb, le-leb, lt-leb, leb-true, and_parts, lt-ltb}
use Rattle.std.proofs.lemmas.Option.{slice_get_past}
use Rattle.std.specs.List.{range_with_len}
use Rattle.terms.specs.Expr.{Expr, var, head, Args, no_args, plain, lam}
use Rattle.terms.specs.Typing.{type_in, fits, some_below, is_below, result_if, args_wanted, joined, placed}
use Rattle.terms.specs.Weights.{variable_weight, binders_weight, step_in, weight_in, args_weight, decl_weight}
use Rattle.terms.specs.Count.{expr_eq, args_eq, once_if, count, total}
use Rattle.terms.specs.Place.{shallow, args_shallow, fits_place, weigh}
use Rattle.terms.specs.declared.parts.Parts.{Parts}
use Rattle.terms.specs.declared.parts.Decl.{Decl}
use Rattle.terms.specs.declared.parts.Arg.{Arg}
use Rattle.terms.specs.declared.parts.Arg.TheVariants.{Plain, Fun}
use Rattle.terms.proofs.Standing.{count-append, count-map}
use Rattle.terms.proofs.Sums.{count-flat_map, count-none, count-and, total-times, total-same, total-same_within, total-none, total-hit}
use Rattle.plain_listing.specs.Generate.{Table, Inner, bound, candidates, firsts, fills, cost, headed, variable, variables, heads, made}
use Rattle.plain_listing.specs.Tables.{stands}

-- the definition of `stands`, by typing and weights
abbrev pub suits : Parts → List (List ℕ) → ℕ → ℕ → ℕ → Expr → Bool
suits g ctx left k b e = (some_below g (type_in g ctx e) b && shallow left e) && (weight_in g ctx e + step_in g (type_in g ctx e) b == k)

pub stands-suits : (g : Parts) (ctx : List (List ℕ)) (left k b : ℕ) (e : Expr) → stands g (record { ctx = ctx; left = left; wanted = b }) k e ≡ suits g ctx left k b e
unfolding fits_place weigh
stands-suits g ctx left k b e = refl

-- a lambda's body may stand under its binders, and the lambda weighs k
abbrev pub suits_under : Parts → List (List ℕ) → ℕ → List ℕ → ℕ → ℕ → Expr → Bool
suits_under g ctx zero ps r k e = false
suits_under g ctx (suc left) ps r k e = (some_below g (type_in g (ctx ++ ps ∷ []) e) r && shallow left e) && (weight_in g (ctx ++ ps ∷ []) e + binders_weight g (length ps) + step_in g (type_in g (ctx ++ ps ∷ []) e) r == k)

-- a term may stand as this argument, and weighs k there
abbrev pub suits_at : Parts → List (List ℕ) → ℕ → Arg → ℕ → Expr → Bool
suits_at g ctx left (Plain b) k e = suits g ctx left k b e
suits_at g ctx left (Fun ps r) k e = suits_under g ctx left ps r k e

-- below the limit the candidates of each argument are right
abbrev pub AreServed : Parts → List (List ℕ) → ℕ → Table → Inner → ℕ → List Arg → Type 0
AreServed g ctx left here under limit [] = Unit {0}
AreServed g ctx left here under limit (a ∷ more) = ((k : ℕ) → k < limit → (e : Expr) → count (expr_eq e) (candidates g here under a k) ≡ once_if (suits_at g ctx left a k e)) × AreServed g ctx left here under limit more

count_placed_plain : (e : Expr) (rest : Args) (d : Expr) (more : List Args) → count (args_eq (plain e rest)) (map (plain d) more) ≡ once_if (expr_eq e d) * count (args_eq rest) more
count_placed_plain e rest d more = count-map (args_eq (plain e rest)) (plain d) more ∙ count-and (expr_eq e d) (args_eq rest) more

count_placed_lam : (e : Expr) (rest : Args) (d : Expr) (more : List Args) → count (args_eq (lam e rest)) (map (lam d) more) ≡ once_if (expr_eq e d) * count (args_eq rest) more
count_placed_lam e rest d more = count-map (args_eq (lam e rest)) (lam d) more ∙ count-and (expr_eq e d) (args_eq rest) more

count_placed : (a : Arg) (e : Expr) (rest : Args) (d : Expr) (more : List Args) → count (args_eq (placed a e rest)) (map (placed a d) more) ≡ once_if (expr_eq e d) * count (args_eq rest) more
count_placed (Plain b) e rest d more = count_placed_plain e rest d more
count_placed (Fun ps r) e rest d more = count_placed_lam e rest d more

count-firsts : (a : Arg) (e : Expr) (rest : Args) (es : List Expr) (more : List Args) → count (args_eq (placed a e rest)) (firsts a es more) ≡ count (expr_eq e) es * count (args_eq rest) more
count-firsts a e rest es more =
    count-flat_map (args_eq (placed a e rest)) (λ d. map (placed a d) more) es
    ∙ total-same _ (λ d. once_if (expr_eq e d) * count (args_eq rest) more) es (λ d. count_placed a e rest d more)
    ∙ total-times (expr_eq e) (count (args_eq rest) more) es

-- nothing else begins so
no_firsts : (a : Arg) (xs : Args) (es : List Expr) (more : List Args) → ((d : Expr) (r : Args) → args_eq xs (placed a d r) ≡ false) → count (args_eq xs) (firsts a es more) ≡ 0
no_firsts a xs [] more h = refl
no_firsts a xs (d ∷ es) more h = count-append (args_eq xs) (map (placed a d) more) (firsts a es more) ∙ rw (count-map (args_eq xs) (placed a d) more, count-none (λ r. args_eq xs (placed a d r)) more (h d), no_firsts a xs es more h) refl

same_eqb : (a b c d : ℕ) → (a ≡ b → c ≡ d) → (c ≡ d → a ≡ b) → (a == b) ≡ (c == d)
same_eqb a b c d there back = elim (cases_eq a b) [ inl e ↦ eq-eqb a b e ∙ sym (eq-eqb c d (there e)) | inr n ↦ ne_eqb a b n ∙ sym (ne_eqb c d (λ e. n (back e))) ]

pub and_no : (y : Bool) → y && false ≡ false
and_no true = refl
and_no false = refl

and_yes : (y : Bool) → y && true ≡ y
and_yes true = refl
and_yes false = refl

-- of the ways to divide a weight, one fits
pick_pair : (x y : Bool) (c r left : ℕ) → total (λ k. once_if (x && (c == k)) * once_if (y && (r == left - k))) (range_with_len 0 (left + 1)) ≡ once_if ((x && y) && (c + r == left))
pick_pair false y c r left = total-none _ 0 (left + 1) (λ k l m. zero-mul (once_if (y && (r == left - k))))
pick_pair true y c r left = elim (cases_lt left c) [
  | inl over ↦ total-none _ 0 (left + 1) (λ k l m. rw (ne_eqb c k (λ e. omega arith)) (zero-mul (once_if (y && (r == left - k))))) ∙ rw (ne_eqb (c + r) left (λ e. omega arith)) (sym (ap once_if (and_no y)))
  | inr within ↦ total-hit _ 0 c (left + 1) (omega arith) (λ k l m d. rw (ne_eqb c k (λ e. d (omega arith))) (zero-mul (once_if (y && (r == left - k))))) ∙ rw (zero-add c, eq-eqb c c refl, same_eqb r (left - c) (c + r) left (λ e. omega arith) (λ e. omega arith)) (one-mul (once_if (y && (c + r == left))))
]

none_left : (left : ℕ) → count (args_eq no_args) (cond (left == 0) (no_args ∷ []) []) ≡ once_if (0 == left)
none_left zero = refl
none_left (suc n) = rw (ne_eqb (suc n) 0 (λ e. omega arith), ne_eqb 0 (suc n) (λ e. omega arith)) refl

other_left : (b : Bool) (xs : Args) → args_eq xs no_args ≡ false → count (args_eq xs) (cond b (no_args ∷ []) []) ≡ 0
other_left true xs h = rw h refl
other_left false xs h = refl

cond_zero : (b : Bool) (n : ℕ) → n ≡ 0 → cond b n 0 ≡ 0
cond_zero true n h = h
cond_zero false n h = refl

count-cond : {X : Type 0} (p : X → Bool) (b : Bool) (xs : List X) → count p (cond b xs []) ≡ cond b (count p xs) 0
count-cond p true xs = refl
count-cond p false xs = refl

-- the two tests of the first and of the rest, in the other order
shuffle : (a b c d : Bool) → (a && b) && (c && d) ≡ (a && c) && (b && d)
shuffle true true c d = refl
shuffle true false true d = refl
shuffle true false false d = refl
shuffle false b c d = refl

-- a lambda weighs its binders more
pub count-bound : (g : Parts) (ctx : List (List ℕ)) (left n r k : ℕ) (f : ℕ → List Expr) (e : Expr) → ((j : ℕ) → j ≤ k → count (expr_eq e) (f j) ≡ once_if (suits g ctx left j r e))
    → count (expr_eq e) (bound f n k) ≡ once_if ((some_below g (type_in g ctx e) r && shallow left e) && (weight_in g ctx e + n + step_in g (type_in g ctx e) r == k))
count-bound g ctx left n r k f e h = count-cond (expr_eq e) (nat_le n k) (f (k - n)) ∙ (elim (cases_lt k n) [
  | inl short ↦ rw (lt-leb n k short, ne_eqb (weight_in g ctx e + n + step_in g (type_in g ctx e) r) k (λ q. omega arith)) (sym (ap once_if (and_no (some_below g (type_in g ctx e) r && shallow left e))))
  | inr long ↦ rw (le-leb n k long, h (k - n) (omega arith), same_eqb (weight_in g ctx e + step_in g (type_in g ctx e) r) (k - n) (weight_in g ctx e + n + step_in g (type_in g ctx e) r) k (λ q. omega arith) (λ q. omega arith)) refl
])

-- each list of arguments that fits the places and weighs exactly w is made once
pub count-fills : (g : Parts) (ctx : List (List ℕ)) (left : ℕ) (here : Table) (under : Inner) (limit : ℕ) → length ctx + left ≤ 3 → (wanted : List Arg) → AreServed g ctx left here under limit wanted → (w : ℕ) → w < limit → (xs : Args)
    → count (args_eq xs) (fills g here under wanted w) ≡ once_if ((fits g ctx xs wanted && args_shallow left xs) && (args_weight g ctx xs wanted == w))
unfolding fills fits args_weight args_shallow
count-fills g ctx left here under limit room [] s w l no_args = none_left w
count-fills g ctx left here under limit room [] s w l (plain e rest) = other_left (w == 0) (plain e rest) refl
count-fills g ctx left here under limit room [] s w l (lam e rest) = other_left (w == 0) (lam e rest) refl
count-fills g ctx left here under limit room (Plain b ∷ more) s w l no_args =
    count-flat_map (args_eq no_args) _ (range_with_len 0 (w + 1)) ∙ total-none _ 0 (w + 1) (λ k low high. no_firsts (Plain b) no_args _ (fills g here under more (w - k)) (λ d r. refl))
count-fills g ctx left here under limit room (Plain b ∷ more) s w l (plain e rest) =
    count-flat_map (args_eq (plain e rest)) _ (range_with_len 0 (w + 1))
    ∙ total-same_within _ (λ k. once_if (suits g ctx left k b e) * once_if ((fits g ctx rest more && args_shallow left rest) && (args_weight g ctx rest more == w - k))) 0 (w + 1) (λ k low high.
    count-firsts (Plain b) e rest (here k b) (fills g here under more (w - k)) ∙ rw (s.0 k (omega arith) e, count-fills g ctx left here under limit room more s.1 (w - k) (omega arith) rest) refl)
    ∙ pick_pair (some_below g (type_in g ctx e) b && shallow left e) (fits g ctx rest more && args_shallow left rest) (weight_in g ctx e + step_in g (type_in g ctx e) b) (args_weight g ctx rest more) w
    ∙ ap (λ t. once_if (t && (weight_in g ctx e + step_in g (type_in g ctx e) b + args_weight g ctx rest more == w))) (shuffle (some_below g (type_in g ctx e) b) (shallow left e) (fits g ctx rest more) (args_shallow left rest))
count-fills g ctx left here under limit room (Plain b ∷ more) s w l (lam e rest) =
    count-flat_map (args_eq (lam e rest)) _ (range_with_len 0 (w + 1)) ∙ total-none _ 0 (w + 1) (λ k low high. no_firsts (Plain b) (lam e rest) _ (fills g here under more (w - k)) (λ d r. refl))
count-fills g ctx left here under limit room (Fun ps r ∷ more) s w l no_args =
    count-flat_map (args_eq no_args) _ (range_with_len 0 (w + 1)) ∙ total-none _ 0 (w + 1) (λ k low high. no_firsts (Fun ps r) no_args _ (fills g here under more (w - k)) (λ d q. refl))
count-fills g ctx left here under limit room (Fun ps r ∷ more) s w l (plain e rest) =
    count-flat_map (args_eq (plain e rest)) _ (range_with_len 0 (w + 1)) ∙ total-none _ 0 (w + 1) (λ k low high. no_firsts (Fun ps r) (plain e rest) _ (fills g here under more (w - k)) (λ d q. refl))
count-fills g ctx zero here under limit room (Fun ps r ∷ more) s w l (lam e rest) =
    count-flat_map (args_eq (lam e rest)) _ (range_with_len 0 (w + 1))
    ∙ total-none _ 0 (w + 1) (λ k low high. count-firsts (Fun ps r) e rest (candidates g here under (Fun ps r) k) (fills g here under more (w - k)) ∙ rw (s.0 k (omega arith) e) (zero-mul _))
    ∙ sym (ap (λ t. once_if (t && (args_weight g ctx (lam e rest) (Fun ps r ∷ more) == w))) (and_no (fits g ctx (lam e rest) (Fun ps r ∷ more))))
count-fills g ctx (suc left) here under limit room (Fun ps r ∷ more) s w l (lam e rest) =
    let inner = ctx ++ ps ∷ [] in
    let weighs = weight_in g inner e + binders_weight g (length ps) + step_in g (type_in g inner e) r in
    count-flat_map (args_eq (lam e rest)) _ (range_with_len 0 (w + 1))
    ∙ total-same_within _ (λ k. once_if ((some_below g (type_in g inner e) r && shallow left e) && (weighs == k)) * once_if ((fits g ctx rest more && args_shallow (suc left) rest) && (args_weight g ctx rest more == w - k))) 0 (w + 1) (λ k low high.
    count-firsts (Fun ps r) e rest (candidates g here under (Fun ps r) k) (fills g here under more (w - k))
    ∙ rw (s.0 k (omega arith) e, count-fills g ctx (suc left) here under limit room more s.1 (w - k) (omega arith) rest) refl)
    ∙ pick_pair (some_below g (type_in g inner e) r && shallow left e) (fits g ctx rest more && args_shallow (suc left) rest) weighs (args_weight g ctx rest more) w
    ∙ ap (λ t. once_if (t && (weighs + args_weight g ctx rest more == w))) (shuffle (some_below g (type_in g inner e) r) (shallow left e) (fits g ctx rest more) (args_shallow (suc left) rest))
    ∙ rw (lt-ltb (length ctx) 3 (omega arith)) refl

-- what is left of the weight is what the arguments weigh
rest_fits : (below fit : Bool) (c args w : ℕ) → cond (below && nat_le c w) (once_if (fit && (args == w - c))) 0 ≡ once_if ((below && fit) && (c + args == w))
rest_fits false fit c args w = refl
rest_fits true false c args w = cond_zero (nat_le c w) 0 refl
rest_fits true true c args w = elim (cases_lt w c) [
  | inl over ↦ rw (lt-leb c w over, ne_eqb (c + args) w (λ e. omega arith)) refl
  | inr within ↦ rw (le-leb c w within, same_eqb args (w - c) (c + args) w (λ e. omega arith) (λ e. omega arith)) refl
]

when_below : (b : Bool) {m n : ℕ} → (b ≡ true → m ≡ n) → cond b m 0 ≡ cond b n 0
when_below true h = h refl
when_below false h = refl

-- the same weight, by the type of the whole
by_type : (g : Parts) (d : Decl) (b : ℕ) (fit flat : Bool) (args w : ℕ) → once_if ((is_below g d.result b && (fit && flat)) && (cost g d b + args == w)) ≡ once_if ((some_below g (result_if (Some d) fit) b && flat) && (d.weight + args + step_in g (result_if (Some d) fit) b == w))
by_type g d b true flat args w =
    let e : cost g d b + args ≡ d.weight + args + step_in g (Some d.result) b = omega arith in
    rw e refl
by_type g d b false flat args w = ap (λ t. once_if (t && (cost g d b + args == w))) (and_no (is_below g d.result b))

-- a declaration that weighs something and whose places are served
pub record IsServed (g : Parts) (ctx : List (List ℕ)) (left : ℕ) (here : Table) (under : Inner) (limit : ℕ) (d : Decl) : Type 0 where
  pub places : AreServed g ctx left here under limit d.args
  pub heavy : 0 < d.weight

-- a declaration heads each term that it begins and that may stand at the place
count-headed : (g : Parts) (ctx : List (List ℕ)) (left : ℕ) (here : Table) (under : Inner) (w b n : ℕ) → length ctx + left ≤ 3 → (o : Option Decl) → ((d : Decl) → o ≡ Some d → IsServed g ctx left here under w d) → (xs : Args)
    → count (expr_eq (head n xs)) (headed g here under w b n o) ≡ once_if ((some_below g (result_if o (fits g ctx xs (args_wanted o))) b && args_shallow left xs) && (decl_weight o + args_weight g ctx xs (args_wanted o) + step_in g (result_if o (fits g ctx xs (args_wanted o))) b == w))
count-headed g ctx left here under w b n room None served xs = refl
count-headed g ctx left here under w b n room (Some d) served xs =
    let decl = served d refl in
    let below = is_below g d.result b && nat_le (cost g d b) w in
    let list = fills g here under d.args (w - cost g d b) in
    let inner : count (expr_eq (head n xs)) (map (head n) list) ≡ count (args_eq xs) list =
    count-map (expr_eq (head n xs)) (head n) list ∙ count-and (n == n) (args_eq xs) list ∙ rw (eq-eqb n n refl) (one-mul (count (args_eq xs) list)) in
    count-cond (expr_eq (head n xs)) below (map (head n) list)
    ∙ rw inner (when_below below (λ within. count-fills g ctx left here under w room d.args decl.places (w - cost g d b) (omega (arith, decl.heavy, leb-true (cost g d b) w (and_parts (is_below g d.result b) (nat_le (cost g d b) w) within).1)) xs))
    ∙ rest_fits (is_below g d.result b) (fits g ctx xs d.args && args_shallow left xs) (cost g d b) (args_weight g ctx xs d.args) w
    ∙ by_type g d b (fits g ctx xs d.args) (args_shallow left xs) (args_weight g ctx xs d.args) w

no_var : (g : Parts) (here : Table) (under : Inner) (w b n m : ℕ) (o : Option Decl) → count (expr_eq (var m)) (headed g here under w b n o) ≡ 0
no_var g here under w b n m None = refl
no_var g here under w b n m (Some d) = count-cond (expr_eq (var m)) _ (map (head n) _) ∙ cond_zero _ _ (count-map (expr_eq (var m)) (head n) _ ∙ count-none _ _ (λ x. refl))

no_other : (g : Parts) (here : Table) (under : Inner) (w b n m : ℕ) (xs : Args) (o : Option Decl) → m ≢ n → count (expr_eq (head m xs)) (headed g here under w b n o) ≡ 0
no_other g here under w b n m xs None h = refl
no_other g here under w b n m xs (Some d) h = count-cond (expr_eq (head m xs)) _ (map (head n) _) ∙ cond_zero _ _ (count-map (expr_eq (head m xs)) (head n) _ ∙ count-none _ _ (λ x. rw (ne_eqb m n h) refl))

one_variable : (b : Bool) (e : Expr) (n : ℕ) (m : Bool) → expr_eq e (var n) ≡ m → count (expr_eq e) (cond b (var n ∷ []) []) ≡ once_if (b && m)
one_variable true e n true h = rw h refl
one_variable true e n false h = rw h refl
one_variable false e n m h = refl

variable_is : (g : Parts) (w b n : ℕ) (t : Option ℕ) → variable g w b n t ≡ cond (some_below g t b && (variable_weight g + step_in g t b == w)) (var n ∷ []) []
variable_is g w b n None = refl
variable_is g w b n (Some a) = refl

count-variable : (g : Parts) (w b n : ℕ) (t : Option ℕ) (e : Expr) (m : Bool) → expr_eq e (var n) ≡ m → count (expr_eq e) (variable g w b n t) ≡ once_if ((some_below g t b && (variable_weight g + step_in g t b == w)) && m)
count-variable g w b n t e m h = ap (λ es. count (expr_eq e) es) (variable_is g w b n t) ∙ one_variable (some_below g t b && (variable_weight g + step_in g t b == w)) e n m h

-- each term that may stand at the place at this weight is made once, and no other
pub count-made : (g : Parts) (ctx : List (List ℕ)) (left : ℕ) (here : Table) (under : Inner) (w b : ℕ) → length ctx + left ≤ 3 → ((n : ℕ) (d : Decl) → slice_get g.decls n ≡ Some d → IsServed g ctx left here under w d) → (e : Expr)
    → count (expr_eq e) (made g (joined ctx) here under w b) ≡ once_if (suits g ctx left w b e)
unfolding type_in weight_in shallow
count-made g ctx left here under w b room served (var m) =
    let vs = joined ctx in
    let v : ℕ → Bool = λ n. some_below g (slice_get vs n) b && (variable_weight g + step_in g (slice_get vs n) b == w) in
    count-append (expr_eq (var m)) (variables g vs w b) (heads g here under w b)
    ∙ rw (count-flat_map (expr_eq (var m)) (λ n. headed g here under w b n (slice_get g.decls n)) (range_with_len 0 (length g.decls)) ∙ total-none _ 0 (length g.decls) (λ n low high. no_var g here under w b n m (slice_get g.decls n)))
    (add-zero _ ∙ count-flat_map (expr_eq (var m)) _ (range_with_len 0 (length vs))
    ∙ total-same _ (λ n. once_if (v n && (m == n))) (range_with_len 0 (length vs)) (λ n. count-variable g w b n (slice_get vs n) (var m) (m == n) refl)
    ∙ (elim (cases_lt m (length vs)) [
      | inl inside ↦ total-hit _ 0 m (length vs) inside (λ n low high other. rw (ne_eqb m n (λ e. other (omega arith))) (ap once_if (and_no (v n)))) ∙ rw (zero-add m, eq-eqb m m refl) (ap once_if (and_yes (v m) ∙ ap (λ t. t && (variable_weight g + step_in g (slice_get vs m) b == w)) (sym (and_yes (some_below g (slice_get vs m) b)))))
      | inr past ↦ total-none _ 0 (length vs) (λ n low high. rw (ne_eqb m n (λ e. omega arith)) (ap once_if (and_no (v n)))) ∙ rw (slice_get_past vs m past) refl
    ]))
count-made g ctx left here under w b room served (head m xs) =
    let vs = joined ctx in
    count-append (expr_eq (head m xs)) (variables g vs w b) (heads g here under w b)
    ∙ rw (count-flat_map (expr_eq (head m xs)) (λ n. variable g w b n (slice_get vs n)) (range_with_len 0 (length vs)) ∙ total-none _ 0 (length vs) (λ n low high. count-variable g w b n (slice_get vs n) (head m xs) false refl ∙ ap once_if (and_no _)))
    (zero-add _ ∙ count-flat_map (expr_eq (head m xs)) _ (range_with_len 0 (length g.decls))
    ∙ (elim (cases_lt m (length g.decls)) [
      | inl inside ↦ total-hit _ 0 m (length g.decls) inside (λ n low high other. no_other g here under w b n m xs (slice_get g.decls n) (λ e. other (omega arith)))
          ∙ rw (zero-add m) (count-headed g ctx left here under w b m room (slice_get g.decls m) (served m) xs)
      | inr past ↦ total-none _ 0 (length g.decls) (λ n low high. no_other g here under w b n m xs (slice_get g.decls n) (λ e. omega arith)) ∙ rw (slice_get_past g.decls m past) refl
    ]))
