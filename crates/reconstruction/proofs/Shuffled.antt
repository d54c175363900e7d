-- What the members of a list give, one after the other, where the list is in another order.
use Rattle.std.proofs.Common.{◌≡◌, ℕ, zero, suc, ◌<◌, ◌≤◌, List, [], ◌∷◌, ◌++◌, flat_map, length, get_or, take, set, swap, refl, sym, ap, ◌∙◌, arith, append_assoc, IsPermutation}
use Rattle.std.proofs.lemmas.List.Sorted.{IsPermutation-refl, IsPermutation-keeps, IsPermutation-trans, IsPermutation-append_left, IsPermutation-append_right, IsPermutation-append_comm}

module _ {X : Type 0} (R : List X → List X → Type 0) (same : (xs : List X) → R xs xs)
    (skip : (x : X) (xs ys : List X) → R xs ys → R (x ∷ xs) (x ∷ ys))
    (turn : (x y : X) (xs : List X) → R (x ∷ y ∷ xs) (y ∷ x ∷ xs))
    (chain : (xs ys zs : List X) → R xs ys → R ys zs → R xs zs) where
  to-head : (l : List X) (j : ℕ) (x d : X) → j < length l → R (x ∷ l) (get_or l j d ∷ set l j x)
  to-head [] j x d h = absurd (omega (arith, h))
  to-head (y ∷ l) zero x d h = turn x y l
  to-head (y ∷ l) (suc j) x d h = chain _ _ _ (turn x y l) (chain _ _ _ (skip y _ _ (to-head l j x d (omega (arith, h)))) (turn y (get_or l j d) (set l j x)))

  exchanged : (l : List X) (i j : ℕ) (d : X) → i < length l → j < length l → R l (set (set l i (get_or l j d)) j (get_or l i d))
  exchanged [] i j d p q = absurd (omega (arith, p))
  exchanged (x ∷ l) zero zero d p q = same (x ∷ l)
  exchanged (x ∷ l) zero (suc j) d p q = to-head l j x d (omega (arith, q))
  exchanged (x ∷ l) (suc i) zero d p q = to-head l i x d (omega (arith, p))
  exchanged (x ∷ l) (suc i) (suc j) d p q = skip x _ _ (exchanged l i j d (omega (arith, p)) (omega (arith, q)))

  swapped : (l : List X) (i j : ℕ) → i < length l → j < length l → R l (swap l i j)
  swapped [] i j p q = same []
  swapped (x ∷ l) i j p q = exchanged (x ∷ l) i j x p q

  along : (xs ys : List X) → IsPermutation xs ys → R xs ys
  along xs = IsPermutation-keeps xs (R xs) (same xs) (λ l i j p q h. chain xs l _ h (swapped l i j p q))

-- they give the same in another order
pub flat-permutation : {A B : Type 0} (f : A → List B) (xs ys : List A) → IsPermutation xs ys → IsPermutation (flat_map f xs) (flat_map f ys)
flat-permutation f = along (λ xs ys. IsPermutation (flat_map f xs) (flat_map f ys))
    (λ xs. IsPermutation-refl _)
    (λ x xs ys h. IsPermutation-append_right (f x) _ _ h)
    (λ x y xs. rw (← append_assoc (f x), ← append_assoc (f y)) (IsPermutation-append_left (flat_map f xs) _ _ (IsPermutation-append_comm (f x) (f y))))
    (λ xs ys zs. IsPermutation-trans _ _ _)

-- members at the end that give nothing
pub flat-rest : {A B : Type 0} (f : A → List B) (d : A) (xs : List A) (n : ℕ) → ((k : ℕ) → n ≤ k → k < length xs → f (get_or xs k d) ≡ []) → flat_map f (take n xs) ≡ flat_map f xs
flat-rest f d [] zero h = refl
flat-rest f d [] (suc n) h = refl
flat-rest f d (x ∷ xs) zero h = flat-rest f d xs zero (λ k low high. h (suc k) (omega arith) (omega (arith, high))) ∙ sym (ap (λ l. l ++ flat_map f xs) (h 0 (omega arith) (omega arith)))
flat-rest f d (x ∷ xs) (suc n) h = ap (λ l. f x ++ l) (flat-rest f d xs n (λ k low high. h (suc k) (omega (arith, low)) (omega (arith, high))))
