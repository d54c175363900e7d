-- A fact of each item, where one more is pushed.
use Rattle.std.proofs.Common.{◌≡◌, inl, inr, ℕ, zero, suc, ◌+◌, ◌<◌, List, [], ◌∷◌, ◌++◌, length, get_or, refl, sym, subst, ◌∙◌, arith}
use Rattle.std.proofs.lemmas.Bool.{cases_lt}

front-at : {X : Type 0} (d : X) (all : List X) (x : X) (j : ℕ) → j < length all → get_or (all ++ x ∷ []) j d ≡ get_or all j d
front-at {X} d [] x j h = absurd (omega (arith, h))
front-at {X} d (y ∷ all) x zero h = refl
front-at {X} d (y ∷ all) x (suc j) h = front-at d all x j (omega (arith, h))

last-at : {X : Type 0} (d : X) (all : List X) (x : X) → get_or (all ++ x ∷ []) (length all) d ≡ x
last-at {X} d [] x = refl
last-at {X} d (y ∷ all) x = last-at d all x

pub each-more : {X : Type 0} (d : X) (P : ℕ → X → Type 0) (all all' : List X) (x : X) (i : ℕ) → length all ≡ i → all' ≡ all ++ x ∷ [] → ((j : ℕ) → j < i → P j (get_or all j d)) → P i x → (j : ℕ) → j < i + 1 → P j (get_or all' j d)
each-more {X} d P all all' x i long pushed before here j low = subst (λ l. P j (get_or l j d)) (sym pushed) (elim (cases_lt j i) [
  | inl less ↦ subst (P j) (sym (front-at d all x j (omega (arith, less, long)))) (before j less)
  | inr most ↦ (
      let same : i ≡ j = omega (arith, low, most) in
      let at : length all ≡ j = long ∙ same in
      subst (λ k. P k (get_or (all ++ x ∷ []) k d)) at (subst (P (length all)) (sym (last-at d all x)) (subst (λ k. P k x) (sym long) here)))
])
