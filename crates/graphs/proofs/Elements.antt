-- An element of a list is its first one or one of the rest.
use Rattle.std.proofs.Common.{◌≡◌, zero, suc, List, [], ◌∷◌, refl, arith, inl, inr, ◌⊎◌, Contains}

pub first_in : {A : Type 0} (x : A) (xs : List A) → Contains (x ∷ xs) x
first_in x xs = (0, omega arith, refl)

pub rest_in : {A : Type 0} (x y : A) (xs : List A) → Contains xs x → Contains (y ∷ xs) x
rest_in x y xs (k, l, e) = (suc k, omega (arith, l), e)

pub none_in : {A P : Type 0} (x : A) → Contains [] x → P
none_in x (k, l, e) = absurd (omega (arith, l))

pub in-cases : {A : Type 0} (x y : A) (xs : List A) → Contains (y ∷ xs) x → (y ≡ x) ⊎ Contains xs x
in-cases x y xs (zero, l, e) = inl e
in-cases x y xs (suc k, l, e) = inr (k, omega (arith, l), e)

pub in-one : {A : Type 0} (x y : A) → Contains (y ∷ []) x → y ≡ x
in-one x y h = elim (in-cases x y [] h) [
  | inl e ↦ e
  | inr k ↦ none_in x k
]

pub single : {A : Type 0} (x y : A) → y ≡ x → Contains (y ∷ []) x
single x y e = (0, omega arith, e)

-- The same by recursion on the list.
abbrev pub IsOneOf : {A : Type 0} → A → List A → Type 0
IsOneOf x [] = ⊥
IsOneOf x (y ∷ ys) = (y ≡ x) ⊎ IsOneOf x ys

pub one-of : {A : Type 0} (x : A) (xs : List A) → Contains xs x → IsOneOf x xs
one-of x [] h = none_in x h
one-of x (y ∷ ys) h = elim (in-cases x y ys h) [
  | inl e ↦ inl e
  | inr k ↦ inr (one-of x ys k)
]

pub of-one : {A : Type 0} (x : A) (xs : List A) → IsOneOf x xs → Contains xs x
of-one x [] h = absurd h
of-one x (y ∷ ys) (inl e) = (0, omega arith, e)
of-one x (y ∷ ys) (inr h) = rest_in x y ys (of-one x ys h)
