-- A level in order, with each term once, rises.
use Rattle.std.proofs.Common.{◌≡◌, ◌≢◌, ℕ, zero, suc, ◌<◌, ◌≤◌, Bool, false, List, [], ◌∷◌, length, get_or, map, All, Ordering, Less, Equal, Greater, IsSorted, None, refl, sym, ap, ◌∙◌, add-one, append-nil, arith}
use Rattle.std.specs.Cmp.{IsTotalOrder}
use Rattle.std.specs.Ordering.{nat_cmp, is_lt, ordering_then, ordering_reverse}
use Rattle.std.proofs.lemmas.Bool.{true≢false, and_parts}
use Rattle.std.proofs.lemmas.Cmp.{nat_list_cmp_total, on_total, then_total, tied_itself, nat_cmp_total}
use Rattle.std.proofs.lemmas.List.Elements.{All-nil, All-cons, All-weaker}
use Rattle.std.proofs.lemmas.Map.Lookups.{exact_bytes}
use Rattle.terms.specs.Expr.{Expr}
use Rattle.terms.specs.Typing.{type_in, some_below}
use Rattle.terms.specs.Place.{IsInhabitant, total_of, fits_place, goal_place, shallow}
use Rattle.terms.specs.Count.{expr_eq, count, Stands}
use Rattle.terms.specs.Order.{ComesBefore, text_cmp}
use Rattle.terms.specs.Listing.{IsRising}
use Rattle.terms.specs.declared.parts.Parts.{Parts}
use Rattle.listing.specs.declared.item.Keyed.{Keyed}
use Rattle.listing.specs.Found.{keyed_cmp, keyed_term, IsKeyed}
use Rattle.terms.proofs.Standing.{expr_eq-refl, count-map, twice, stands-head, stands-tail}
use Rattle.terms.proofs.Fronts.{list_total}
use Rattle.terms.proofs.Codes.{one_term, below_some}

pub keyed_total : IsTotalOrder keyed_cmp
keyed_total = then_total (on_total (λ k. k.item.text) nat_list_cmp_total) (on_total (λ k. k.code) nat_list_cmp_total)

-- an inhabitant has a type
pub typed : (g : Parts) (e : Expr) → IsInhabitant g e → type_in g [] e ≢ None
unfolding fits_place
typed g e i = below_some g (type_in g [] e) g.goal (and_parts (some_below g (type_in g [] e) g.goal) (shallow g.depth e) (and_parts (fits_place g (goal_place g) e) _ i).0).0

then_equal : (o r : Ordering) → ordering_then o r ≡ Equal → r ≡ Equal
then_equal Less r h = cc
then_equal Equal r h = h
then_equal Greater r h = cc

below_or : (o r : Ordering) → r ≡ ordering_reverse o → is_lt r ≡ false → o ≢ Equal → o ≡ Less
below_or Less r e h n = refl
below_or Equal r e h n = absurd (n refl)
below_or Greater r e h n = absurd (true≢false (sym (ap is_lt e) ∙ h))

-- a mapped list that rises from neighbour to neighbour rises
pub rising_map : {X : Type 0} (g : Parts) (f : X → Expr) (ks : List X) → ((k : ℕ) (d : X) → suc k < length ks → ComesBefore g (f (get_or ks k d)) (f (get_or ks (suc k) d))) → IsRising g (map f ks)
rising_map g f [] h = tt
rising_map g f (x ∷ []) h = (All-nil (ComesBefore g (f x)), tt)
rising_map g f (x ∷ y ∷ ys) h =
    let next : ComesBefore g (f x) (f y) = h zero x (omega arith) in
    let rest = rising_map g f (y ∷ ys) (λ k d l. h (suc k) d (omega (arith, l))) in
    (All-cons (ComesBefore g (f x)) (f y) (map f ys) next (All-weaker (ComesBefore g (f y)) (ComesBefore g (f x)) (λ z b. (list_total g).trans (f x) (f y) z next b) (map f ys) rest.0), rest)

-- each element stands in the list
pub stands_at : {X : Type 0} (f : X → Expr) (ks : List X) (k : ℕ) (d : X) → k < length ks → Stands (f (get_or ks k d)) (map f ks)
stands_at f [] k d l = absurd (omega (arith, l))
stands_at f (x ∷ xs) zero d l = stands-head (f x) (map f xs)
stands_at f (x ∷ xs) (suc k) d l = stands-tail (f (get_or xs k d)) (f x) (map f xs) (stands_at f xs k d (omega (arith, l)))

-- equal keys belong to one term
same_term : (g : Parts) (w : ℕ) (a b : Keyed) → IsKeyed g w a → IsKeyed g w b → type_in g [] (keyed_term a) ≢ None → type_in g [] (keyed_term b) ≢ None → keyed_cmp a b ≡ Equal → keyed_term a ≡ keyed_term b
same_term g w a b p q s t h =
    let codes : a.code ≡ b.code = exact_bytes a.code b.code (then_equal _ _ h) in
    (one_term g [] (keyed_term a) (keyed_term b) [] [] s t (append-nil _ ∙ sym p.code ∙ codes ∙ q.code ∙ sym (append-nil _))).0

-- within one weight the keys decide
keys_decide : (g : Parts) (w : ℕ) (a b : Keyed) → IsKeyed g w a → IsKeyed g w b → total_of g (keyed_term a) ≡ w → total_of g (keyed_term b) ≡ w → keyed_cmp a b ≡ Less → ComesBefore g (keyed_term a) (keyed_term b)
keys_decide g w a b p q s t h =
    let level : nat_cmp (total_of g (keyed_term a)) (total_of g (keyed_term b)) ≡ Equal = rw (s, t) (tied_itself nat_cmp_total w) in
    let texts : text_cmp g (keyed_term a) (keyed_term b) ≡ keyed_cmp a b = rw (p.text, q.text, p.code, q.code) refl in
    rw level (texts ∙ h)

pub rising_keyed : (g : Parts) (w : ℕ) (ks : List Keyed) → IsSorted keyed_cmp ks → All (IsKeyed g w) ks → ((e : Expr) → Stands e (map keyed_term ks) → IsInhabitant g e) → ((e : Expr) → Stands e (map keyed_term ks) → total_of g e ≡ w)
    → ((e : Expr) → count (expr_eq e) (map keyed_term ks) ≤ 1) → IsRising g (map keyed_term ks)
rising_keyed g w ks sorted all inside level once = rising_map g keyed_term ks (λ k d l.
    let a = get_or ks k d in
    let b = get_or ks (suc k) d in
    let here = stands_at keyed_term ks k d (omega (arith, l)) in
    let next = stands_at keyed_term ks (suc k) d l in
    let up : is_lt (keyed_cmp b a) ≡ false = rw (← add-one k) (sorted k d (omega arith) (omega (arith, l))) in
    let pa = all k d (omega (arith, l)) in
    let pb = all (suc k) d l in
    keys_decide g w a b pa pb (level (keyed_term a) here) (level (keyed_term b) next)
    (below_or (keyed_cmp a b) (keyed_cmp b a) (keyed_total.antisymm b a) up (λ tie.
    let same = same_term g w a b pa pb (typed g (keyed_term a) (inside (keyed_term a) here)) (typed g (keyed_term b) (inside (keyed_term b) next)) tie in
    let p : Keyed → Bool = λ i. expr_eq (keyed_term a) (keyed_term i) in
    absurd (omega (arith, once (keyed_term a), count-map (expr_eq (keyed_term a)) keyed_term ks, twice p ks k d l (expr_eq-refl (keyed_term a)) (ap (expr_eq (keyed_term a)) (sym same) ∙ expr_eq-refl (keyed_term a)))))))
