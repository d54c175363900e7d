-- Different fronts of some codes are no more than the codes' lengths and one each, added up.
use Rattle.std.proofs.Common.{◌≡◌, ℕ, ◌+◌, ◌≤◌, Bool, true, false, ◌&&◌, ◌==◌, List, [], ◌∷◌, length, map, cond, refl, sym, ap, ◌∙◌, arith}
use Rattle.std.proofs.lemmas.Bool.{false≢true, eq-eqb, eqb-true, ne_eqb}
use Rattle.terms.specs.Count.{once_if, count, total}
use Rattle.partial_terms.specs.Fronts.{begins, same}

-- each stands there at most once
abbrev pub AreDistinct : List (List ℕ) → Type 0
AreDistinct fs = (f : List ℕ) → count (same f) fs ≤ 1

-- what follows the number y, in those that begin with it
abbrev pub tails : ℕ → List (List ℕ) → List (List ℕ)
tails y [] = []
tails y ([] ∷ fs) = tails y fs
tails y ((x ∷ f) ∷ fs) = cond (x == y) (f ∷ tails y fs) (tails y fs)

count-tails : (y : ℕ) (c : List ℕ) (fs : List (List ℕ)) → count (λ f. begins f (y ∷ c)) fs ≡ count (same []) fs + count (λ f. begins f c) (tails y fs)
count-tails y c [] = refl
count-tails y c ([] ∷ fs) = omega (arith, count-tails y c fs)
count-tails y c ((x ∷ f) ∷ fs) = go (x == y) (count-tails y c fs)
  where
    go : (b : Bool) → count (λ f. begins f (y ∷ c)) fs ≡ count (same []) fs + count (λ f. begins f c) (tails y fs) → once_if (b && begins f c) + count (λ f. begins f (y ∷ c)) fs ≡ 0 + count (same []) fs + count (λ f. begins f c) (cond b (f ∷ tails y fs) (tails y fs))
    go true h = omega (arith, h)
    go false h = omega (arith, h)

eqb-sym : (m n : ℕ) → (m == n) ≡ (n == m)
eqb-sym m n = go (m == n) refl
  where
    go : (b : Bool) → (m == n) ≡ b → b ≡ (n == m)
    go true h = sym (eq-eqb n m (sym (eqb-true m n h)))
    go false h = sym (ne_eqb n m (λ e. false≢true (sym h ∙ eq-eqb m n (sym e))))

same-tails : (y : ℕ) (a : List ℕ) (fs : List (List ℕ)) → count (same a) (tails y fs) ≡ count (same (y ∷ a)) fs
same-tails y a [] = refl
same-tails y a ([] ∷ fs) = omega (arith, same-tails y a fs)
same-tails y a ((x ∷ f) ∷ fs) = go (x == y) (same-tails y a fs) ∙ ap (λ b. once_if (b && same a f) + count (same (y ∷ a)) fs) (eqb-sym x y)
  where
    go : (b : Bool) → count (same a) (tails y fs) ≡ count (same (y ∷ a)) fs → count (same a) (cond b (f ∷ tails y fs) (tails y fs)) ≡ once_if (b && same a f) + count (same (y ∷ a)) fs
    go true h = omega (arith, h)
    go false h = omega (arith, h)

begins-empty : (f : List ℕ) → begins f [] ≡ same [] f
begins-empty [] = refl
begins-empty (x ∷ f) = refl

count-empty : (fs : List (List ℕ)) → count (λ f. begins f []) fs ≡ count (same []) fs
count-empty [] = refl
count-empty (f ∷ fs) = rw (begins-empty f, count-empty fs) refl

-- of different lists no more than its length and one begin a list
pub few_begin : (c : List ℕ) (fs : List (List ℕ)) → AreDistinct fs → count (λ f. begins f c) fs ≤ length c + 1
few_begin [] fs d = omega (arith, count-empty fs, d [])
few_begin (y ∷ c) fs d = omega (arith, count-tails y c fs, d [], few_begin c (tails y fs) (λ a. omega (arith, same-tails y a fs, d (y ∷ a))))

total-add : {X : Type 0} (f g : X → ℕ) (xs : List X) → total (λ x. f x + g x) xs ≡ total f xs + total g xs
total-add f g [] = refl
total-add f g (x ∷ xs) = omega (arith, total-add f g xs)

total-zero : {X : Type 0} (xs : List X) → total (λ x. 0) xs ≡ 0
total-zero [] = refl
total-zero (x ∷ xs) = omega (arith, total-zero xs)

once_total : {X : Type 0} (p : X → Bool) (xs : List X) → total (λ x. once_if (p x)) xs ≡ count p xs
once_total p [] = refl
once_total p (x ∷ xs) = ap (λ n. once_if (p x) + n) (once_total p xs)

-- counted by rows or by columns
pub swapped : {X Y : Type 0} (r : X → Y → Bool) (xs : List X) (ys : List Y) → total (λ x. count (r x) ys) xs ≡ total (λ y. count (λ x. r x y) xs) ys
swapped r [] ys = sym (total-zero ys)
swapped r (x ∷ xs) ys = ap (λ n. n + total (λ z. count (r z) ys) xs) (sym (once_total (r x) ys)) ∙ ap (λ n. total (λ y. once_if (r x y)) ys + n) (swapped r xs ys) ∙ sym (total-add (λ y. once_if (r x y)) (λ y. count (λ z. r z y) xs) ys)

pub total-below : {X : Type 0} (f g : X → ℕ) (xs : List X) → ((x : X) → f x ≤ g x) → total f xs ≤ total g xs
total-below f g [] h = omega arith
total-below f g (x ∷ xs) h = omega (arith, h x, total-below f g xs h)

-- each begins one of the codes
abbrev pub AllBegin : List (List ℕ) → List (List ℕ) → Type 0
AllBegin [] cs = Unit {0}
AllBegin (f ∷ fs) cs = (1 ≤ count (λ c. begins f c) cs) × AllBegin fs cs

length-below : (fs cs : List (List ℕ)) → AllBegin fs cs → length fs ≤ total (λ f. count (λ c. begins f c) cs) fs
length-below [] cs h = omega arith
length-below (f ∷ fs) cs h = omega (arith, h.0, length-below fs cs h.1)

pub few_fronts : (fs cs : List (List ℕ)) → AreDistinct fs → AllBegin fs cs → length fs ≤ total (λ c. length c + 1) cs
few_fronts fs cs d h = omega (arith, length-below fs cs h, swapped (λ f c. begins f c) fs cs, total-below (λ c. count (λ f. begins f c) fs) (λ c. length c + 1) cs (λ c. few_begin c fs d))

pub total-map : {X Y : Type 0} (f : Y → ℕ) (h : X → Y) (xs : List X) → total f (map h xs) ≡ total (λ x. f (h x)) xs
total-map f h [] = refl
total-map f h (x ∷ xs) = ap (λ n. f (h x) + n) (total-map f h xs)
