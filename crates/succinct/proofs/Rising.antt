-- Rising lists as sets: there is one for each set of numbers.
use Rattle.std.proofs.Common.{◌≡◌, ◌⊎◌, inl, inr, ℕ, ◌<◌, Bool, true, false, ◌||◌, ◌==◌, nat_lt, cond, List, [], ◌∷◌, refl, sym, ap, subst, ◌∙◌, arith}
use Rattle.std.specs.List.{AllByRecursion}
use Rattle.std.specs.List.Sorted.{IsPermutation, IsSorted, IsStrictlySortedBy}
use Rattle.std.specs.Ordering.{nat_cmp}
use Rattle.std.proofs.Common.{Less, Equal, Greater, ◌≤◌}
use Rattle.std.proofs.lemmas.Cmp.{nat_eq_equiv}
use Rattle.std.proofs.Common.{eqb}
use Rattle.std.specs.List.{dedup}
use Rattle.std.proofs.lemmas.List.Kept.{Contains-dedup_nat, Contains-from_dedup}
use Rattle.std.proofs.lemmas.Map.Keys.{IsStrictlyIncreasing-dedup, sorted_from_strictly_increasing, sorted_head, sorted_tail}
use Rattle.std.proofs.lemmas.Map.Views.{list_any-from_Contains, Contains-from_any}
use Rattle.std.proofs.lemmas.Bool.{false≢true, or_cases, or_left, eqb-true, eq-eqb, cases_order, ltb-true, ltb-false, eqb-false}
use Rattle.std.proofs.lemmas.List.Sorted.{list_any-IsPermutation}
use Rattle.succinct.specs.Sets.{has, IsRising, put, joined_with, set_of}

pub above_all : (x : ℕ) (xs : List ℕ) → AllByRecursion (λ y. x < y) xs → (a : ℕ) → has a xs ≡ true → x < a
above_all x [] all a h = absurd (false≢true h)
above_all x (y ∷ ys) all a h = elim (or_cases (a == y) (has a ys) h) [
  | inl here ↦ (let e = eqb-true a y here in omega (arith, all.0, e))
  | inr later ↦ above_all x ys all.1 a later
]

not_above : (x : ℕ) (xs : List ℕ) → AllByRecursion (λ y. x < y) xs → has x xs ≡ false
not_above x xs all = go (has x xs) refl
  where
    go : (b : Bool) → has x xs ≡ b → b ≡ false
    go false h = refl
    go true h = (let l = above_all x xs all x h in absurd (omega (arith, l)))

pub same_rising : (xs ys : List ℕ) → IsRising xs → IsRising ys → ((a : ℕ) → has a xs ≡ has a ys) → xs ≡ ys
same_rising [] [] rx ry same = refl
same_rising [] (y ∷ ys) rx ry same = absurd (false≢true (same y ∙ or_left (y == y) (has y ys) (eq-eqb y y refl)))
same_rising (x ∷ xs) [] rx ry same = absurd (false≢true (sym (same x) ∙ or_left (x == x) (has x xs) (eq-eqb x x refl)))
same_rising (x ∷ xs) (y ∷ ys) rx ry same =
    let head : x ≡ y = heads (or_cases (x == y) (has x ys) (sym (same x) ∙ or_left (x == x) (has x xs) (eq-eqb x x refl))) (or_cases (y == x) (has y xs) (same y ∙ or_left (y == y) (has y ys) (eq-eqb y y refl))) in
    let rest : xs ≡ ys = same_rising xs ys rx.1 ry.1 (λ a. tails head a (a == x) refl) in
    ap (λ z. z ∷ xs) head ∙ ap (λ zs. y ∷ zs) rest
  where
    heads : (x == y ≡ true) ⊎ (has x ys ≡ true) → (y == x ≡ true) ⊎ (has y xs ≡ true) → x ≡ y
    heads (inl h) k = eqb-true x y h
    heads (inr h) (inl k) = sym (eqb-true y x k)
    heads (inr h) (inr k) = (let a = above_all y ys ry.0 x h in let b = above_all x xs rx.0 y k in absurd (omega (arith, a, b)))

    tails : x ≡ y → (a : ℕ) (b : Bool) → (a == x) ≡ b → has a xs ≡ has a ys
    tails head a true h =
        let e = eqb-true a x h in
        subst (λ z. has z xs ≡ false) (sym e) (not_above x xs rx.0) ∙ sym (subst (λ z. has z ys ≡ false) (sym (e ∙ head)) (not_above y ys ry.0))
    tails head a false h =
        let left : (a == x) || has a xs ≡ has a xs = ap (λ b. b || has a xs) h in
        let right : (a == y) || has a ys ≡ has a ys = ap (λ z. (a == z) || has a ys) (sym head) ∙ ap (λ b. b || has a ys) h in
        sym left ∙ same a ∙ right

pub has-put : (a x : ℕ) (set : List ℕ) → has a (put x set) ≡ ((a == x) || has a set)
has-put a x [] = refl
has-put a x (y ∷ ys) = go (nat_lt x y) (x == y) refl (has-put a x ys)
  where
    twice : (b c : Bool) → b || c ≡ b || (b || c)
    twice true c = refl
    twice false c = refl

    swap : (b c d : Bool) → b || (c || d) ≡ c || (b || d)
    swap true true d = refl
    swap true false d = refl
    swap false c d = refl

    go : (b c : Bool) → (x == y) ≡ c → has a (put x ys) ≡ ((a == x) || has a ys) → has a (cond b (x ∷ y ∷ ys) (cond c (y ∷ ys) (y ∷ put x ys))) ≡ ((a == x) || ((a == y) || has a ys))
    go true c h again = refl
    go false true h again = twice (a == y) (has a ys) ∙ ap (λ n. (a == n) || ((a == y) || has a ys)) (sym (eqb-true x y h))
    go false false h again = ap (λ b. (a == y) || b) again ∙ swap (a == y) (a == x) (has a ys)

pub has-joined_with : (a : ℕ) (set xs : List ℕ) → has a (joined_with set xs) ≡ (has a set || has a xs)
has-joined_with a set [] = none (has a set)
  where
    none : (b : Bool) → b ≡ b || false
    none true = refl
    none false = refl
has-joined_with a set (x ∷ xs) = has-joined_with a (put x set) xs ∙ ap (λ b. b || has a xs) (has-put a x set) ∙ turn (a == x) (has a set) (has a xs)
  where
    turn : (b c d : Bool) → ((b || c) || d) ≡ (c || (b || d))
    turn true true d = refl
    turn true false d = refl
    turn false c d = refl

all_put : (z x : ℕ) (set : List ℕ) → z < x → AllByRecursion (λ y. z < y) set → AllByRecursion (λ y. z < y) (put x set)
all_put z x [] h all = (h, all)
all_put z x (y ∷ ys) h all = go (nat_lt x y) (x == y) (all_put z x ys h all.1)
  where
    go : (b c : Bool) → AllByRecursion (λ y. z < y) (put x ys) → AllByRecursion (λ y. z < y) (cond b (x ∷ y ∷ ys) (cond c (y ∷ ys) (y ∷ put x ys)))
    go true c rest = (h, all)
    go false true rest = all
    go false false rest = (all.0, rest)

all_higher : (x y : ℕ) (ys : List ℕ) → x < y → AllByRecursion (λ z. y < z) ys → AllByRecursion (λ z. x < z) ys
all_higher x y [] h all = all
all_higher x y (z ∷ zs) h all = (omega (arith, h, all.0), all_higher x y zs h all.1)

pub rising-put : (x : ℕ) (set : List ℕ) → IsRising set → IsRising (put x set)
rising-put x [] r = (r, r)
rising-put x (y ∷ ys) r = go (nat_lt x y) (x == y) refl refl (rising-put x ys r.1)
  where
    go : (b c : Bool) → nat_lt x y ≡ b → (x == y) ≡ c → IsRising (put x ys) → IsRising (cond b (x ∷ y ∷ ys) (cond c (y ∷ ys) (y ∷ put x ys)))
    go true c h e rest = ((ltb-true x y h, all_higher x y ys (ltb-true x y h) r.0), r)
    go false true h e rest = r
    go false false h e rest = (let low = ltb-false x y h in let apart = eqb-false x y e in (all_put y x ys (above x y low apart) r.0, rest))
      where
        above : (a b : ℕ) → b ≤ a → (a ≡ b → ⊥) → b < a
        above a b low apart = elim (cases_order a b) [ inl same ↦ absurd (apart same) | inr side ↦ (elim side [ inl less ↦ absurd (omega (arith, low, less)) | inr more ↦ more ]) ]

pub rising-joined_with : (set xs : List ℕ) → IsRising set → IsRising (joined_with set xs)
rising-joined_with set [] r = r
rising-joined_with set (x ∷ xs) r = rising-joined_with (put x set) xs (rising-put x set r)

-- a rising list of the numbers of another list is its set
pub set_of-is : (xs ys : List ℕ) → IsRising ys → ((a : ℕ) → has a ys ≡ has a xs) → ys ≡ set_of xs
set_of-is xs ys r same = same_rising ys (set_of xs) r (rising-joined_with [] xs tt) (λ a. same a ∙ sym (has-joined_with a [] xs))

-- a set joined with a set of numbers is joined with the numbers
pub joined_with-set_of : (set xs : List ℕ) → IsRising set → joined_with set (set_of xs) ≡ joined_with set xs
joined_with-set_of set xs r = same_rising (joined_with set (set_of xs)) (joined_with set xs) (rising-joined_with set (set_of xs) r) (rising-joined_with set xs r) (λ a.
    has-joined_with a set (set_of xs) ∙ ap (λ b. has a set || b) (has-joined_with a [] xs) ∙ sym (has-joined_with a set xs))

less : (x y : ℕ) → nat_cmp x y ≡ Less → x < y
less x y h = go (nat_lt x y) refl h
  where
    go : (b : Bool) → nat_lt x y ≡ b → cond b Less (cond (x == y) Equal Greater) ≡ Less → x < y
    go true e h' = ltb-true x y e
    go false e h' = last (x == y) h'
      where
        last : (c : Bool) → cond c Equal Greater ≡ Less → x < y
        last true h'' = cc
        last false h'' = cc

all_less : (x : ℕ) (ys : List ℕ) → AllByRecursion (λ y. nat_cmp x y ≡ Less) ys → AllByRecursion (λ y. x < y) ys
all_less x [] all = all
all_less x (y ∷ ys) all = (less x y all.0, all_less x ys all.1)

rising-sorted : (xs : List ℕ) → IsStrictlySortedBy nat_cmp xs → IsRising xs
rising-sorted [] s = tt
rising-sorted (x ∷ xs) s = (all_less x xs (sorted_head nat_cmp x xs s), rising-sorted xs (sorted_tail nat_cmp x xs s))

same_truth : (b c : Bool) → (b ≡ true → c ≡ true) → (c ≡ true → b ≡ true) → b ≡ c
same_truth true c f g = sym (f refl)
same_truth false true f g = g refl
same_truth false false f g = refl

-- numbers that were sorted and freed of repetitions are the set of them
pub sorted_set : (xs sorted : List ℕ) → IsPermutation xs sorted → IsSorted nat_cmp sorted → dedup eqb sorted ≡ set_of xs
sorted_set xs sorted moved s = set_of-is xs (dedup eqb sorted) (rising-sorted (dedup eqb sorted) (sorted_from_strictly_increasing (dedup eqb sorted) (IsStrictlyIncreasing-dedup sorted s))) (λ a.
    same_truth (has a (dedup eqb sorted)) (has a sorted)
    (λ h. list_any-from_Contains nat_eq_equiv a sorted (Contains-from_dedup eqb sorted a (Contains-from_any (λ x y e. eqb-true x y e) a (dedup eqb sorted) h)))
    (λ h. list_any-from_Contains nat_eq_equiv a (dedup eqb sorted) (Contains-dedup_nat sorted a (Contains-from_any (λ x y e. eqb-true x y e) a sorted h)))
    ∙ sym (list_any-IsPermutation (λ x. a == x) xs sorted moved))
