-- What holds of each element of a list, one after the other.
use Rattle.std.proofs.Common.{◌≡◌, ◌∙◌, ap, sym, subst, arith, ℕ, zero, suc, ◌+◌, ◌<◌, ◌≤◌, List, [], ◌∷◌, length, get_or, slice_get, Some, inl, inr}
use Rattle.std.proofs.Math.Nat.{eq-or-lt_of_le}

-- it holds of each one before a place
abbrev pub HoldsTo : {A : Type 0} → (A → Type 0) → ℕ → List A → Type 0
HoldsTo {A} P i xs = (k : ℕ) (x : A) → k < i → slice_get xs k ≡ Some x → P x

get_some : {A : Type 0} (xs : List A) (k : ℕ) (c x : A) → slice_get xs k ≡ Some x → get_or xs k c ≡ x
get_some [] k c x e = absurd cc
get_some (y ∷ xs) zero c x e = cc
get_some (y ∷ xs) (suc k) c x e = get_some xs k c x e

get_below : {A : Type 0} (xs : List A) (k : ℕ) (x : A) → slice_get xs k ≡ Some x → k < length xs
get_below [] k x e = absurd cc
get_below (y ∷ xs) zero x e = omega arith
get_below (y ∷ xs) (suc k) x e = let h = get_below xs k x e in omega (arith, h)

pub holds_step : {A : Type 0} (P : A → Type 0) (xs : List A) (i : ℕ) (c : A) → c ≡ get_or xs i c → HoldsTo P i xs → P c → HoldsTo P (i + 1) xs
holds_step P xs i c e h s = λ k x l at. elim (eq-or-lt_of_le {n = k} {m = i} (omega (arith, l))) [
  | inr m ↦ h k x m at
  | inl q ↦ subst P (e ∙ ap (λ z. get_or xs z c) (sym q) ∙ get_some xs k c x at) s
]

pub holds_end : {A : Type 0} (P : A → Type 0) (xs : List A) (i : ℕ) → length xs ≤ i → HoldsTo P i xs → (k : ℕ) (x : A) → slice_get xs k ≡ Some x → P x
holds_end P xs i l h k x at = let m = get_below xs k x at in h k x (omega (arith, m, l)) at
