-- What is read of a list at a place.
use Rattle.std.proofs.Common.{◌≡◌, ◌⊎◌, inl, inr, ℕ, zero, suc, ◌+◌, ◌<◌, Bool, true, false, List, [], ◌∷◌, ◌++◌, length, slice_get, Option, Some, None, refl, ap, ◌∙◌, arith}
use Rattle.std.proofs.lemmas.Bool.{false≢true}

pub some_eq : {X : Type 0} (x y : X) → Some x ≡ Some y → x ≡ y
some_eq x y h = cc

abbrev is_there : {X : Type 0} → Option X → Bool
is_there None = false
is_there (Some x) = true

pub none_some : {X : Type 0} (x : X) → None ≡ Some x → ⊥
none_some x h = false≢true (ap is_there h)

-- an element of one list after the other, and of which of them
pub get-either : {X : Type 0} (xs ys : List X) (m : ℕ) (x : X) → slice_get (xs ++ ys) m ≡ Some x → (slice_get xs m ≡ Some x) ⊎ ((k : ℕ) × (m ≡ length xs + k) × (slice_get ys k ≡ Some x))
get-either [] ys m x h = inr (m, omega arith, h)
get-either (y ∷ xs) ys zero x h = inl h
get-either (y ∷ xs) ys (suc m) x h = elim (get-either xs ys m x h) [
  | inl first ↦ inl first
  | inr second ↦ (let e = second.1 in inr (second.0, omega (arith, e), second.2))
]

pub get-second : {X : Type 0} (xs ys : List X) (k : ℕ) (x : X) → slice_get ys k ≡ Some x → slice_get (xs ++ ys) (length xs + k) ≡ Some x
get-second [] ys k x h = (let e : 0 + k ≡ k = omega arith in ap (slice_get ys) e ∙ h)
get-second (y ∷ xs) ys k x h = (let e : suc (length xs) + k ≡ suc (length xs + k) = omega arith in ap (slice_get (y ∷ (xs ++ ys))) e ∙ get-second xs ys k x h)

-- there is an element at a place of the list
pub there : {X : Type 0} (xs : List X) (k : ℕ) → k < length xs → (x : X) × (slice_get xs k ≡ Some x)
there [] k low = absurd (omega (arith, low))
there (x ∷ xs) zero low = (x, refl)
there (x ∷ xs) (suc k) low = there xs k (omega (arith, low))
