-- The equations by which the loops make the lists.
use Rattle.std.proofs.Common.{◌≡◌, ℕ, zero, suc, ◌+◌, ◌-◌, ◌<◌, List, [], ◌∷◌, ◌++◌, flat_map, refl, sym, ap, ◌∙◌, arith, append_assoc, append-nil, length, ◌==◌, true, add-zero, add-one, zero-add}
use Rattle.std.specs.List.{range_with_len}
use Rattle.std.proofs.lemmas.Bool.{ne_eqb}
use Rattle.terms.specs.Expr.{Expr, Args, no_args}
use Rattle.terms.specs.declared.parts.Arg.{Arg}
use Rattle.terms.specs.declared.parts.Parts.{Parts}
use Rattle.plain_listing.specs.Generate.{Table, Inner, candidates, firsts, fills}

flat_map-range_more : {X : Type 0} (h : ℕ → List X) (a n : ℕ) → flat_map h (range_with_len a (n + 1)) ≡ flat_map h (range_with_len a n) ++ h (a + n)
flat_map-range_more h a zero = append-nil (h a) ∙ ap h (sym (add-zero a))
flat_map-range_more h a (suc n) =
    let e : a + 1 + n ≡ a + suc n = omega arith in
    ap (λ m. flat_map h (range_with_len a m)) (add-one (suc n)) ∙ ap (λ m. h a ++ flat_map h (range_with_len (a + 1) m)) (sym (add-one n)) ∙ ap (λ ys. h a ++ ys) (flat_map-range_more h (a + 1) n) ∙ sym (append_assoc (h a) (flat_map h (range_with_len (a + 1) n)) (h (a + 1 + n))) ∙ ap (λ m. h a ++ flat_map h (range_with_len (a + 1) n) ++ h m) e

-- one number more
pub flat_map-range_next : {X : Type 0} (h : ℕ → List X) (n : ℕ) → flat_map h (range_with_len 0 (n + 1)) ≡ flat_map h (range_with_len 0 n) ++ h n
flat_map-range_next h n = flat_map-range_more h 0 n ∙ ap (λ m. flat_map h (range_with_len 0 n) ++ h m) (zero-add n)

-- the same, after what was there before
pub made_next : {X : Type 0} (h : ℕ → List X) (n : ℕ) (old now new : List X) → now ≡ old ++ flat_map h (range_with_len 0 n) → new ≡ now ++ h n → new ≡ old ++ flat_map h (range_with_len 0 (n + 1))
made_next h n old now new before next = next ∙ ap (λ ys. ys ++ h n) before ∙ append_assoc old (flat_map h (range_with_len 0 n)) (h n) ∙ ap (λ ys. old ++ ys) (sym (flat_map-range_next h n))

pub fills-none : (g : Parts) (here : Table) (under : Inner) (w : ℕ) → 0 < w → fills g here under [] w ≡ []
unfolding fills
fills-none g here under w l = rw (ne_eqb w 0 (λ e. omega arith)) refl

pub fills-one : (g : Parts) (here : Table) (under : Inner) → fills g here under [] 0 ≡ no_args ∷ []
unfolding fills
fills-one g here under = refl

pub fills-cons : (g : Parts) (here : Table) (under : Inner) (a : Arg) (more : List Arg) (w : ℕ) → fills g here under (a ∷ more) w ≡ flat_map (λ k. firsts a (candidates g here under a k) (fills g here under more (w - k))) (range_with_len 0 (w + 1))
unfolding fills
fills-cons g here under a more w = refl

-- without a candidate nothing is added
pub firsts_none : (a : Arg) (es : List Expr) (more : List Args) → es ≡ [] → firsts a es more ≡ []
firsts_none a [] more h = refl
firsts_none a (e ∷ es) more h = cc

-- the list is as it was
pub nothing_added : (a : Arg) (es : List Expr) (more xs : List Args) → es ≡ [] → xs ≡ xs ++ firsts a es more
nothing_added a es more xs h = sym (append-nil xs) ∙ ap (λ ys. xs ++ ys) (sym (firsts_none a es more h))

pub empty-nil : {X : Type 0} (xs : List X) → (length xs == 0) ≡ true → xs ≡ []
empty-nil [] h = refl
empty-nil (x ∷ xs) h = cc (h, ne_eqb (suc (length xs)) 0 (λ e. omega arith))

pub ruleset making = (fills-none, fills-one, flat_map-range_next)
