-- Of n + 1 numbers one is none of n.
use Rattle.std.proofs.Common.{◌≡◌, ◌≢◌, ◌∙◌, inl, inr, sym, ap, refl, arith, ℕ, zero, suc, ◌+◌, ◌<◌, ◌≤◌, ◌==◌, ◌||◌, Bool, true, false, cond, List, [], ◌∷◌, length}
use Rattle.std.specs.List.{list_any}
use Rattle.std.proofs.lemmas.Bool.{false≢true, or_cases, or_left, or_right, eqb-true, ne_eqb}

-- the list without one of its numbers
without : ℕ → List ℕ → List ℕ
without n [] = []
without n (x ∷ xs) = cond (x == n) xs (x ∷ without n xs)

abbrev In : ℕ → List ℕ → Type 0
In n xs = list_any (λ x. x == n) xs ≡ true

if-shorter : (b : Bool) (x : ℕ) (xs ys : List ℕ) → (b ≡ false → suc (length ys) ≡ length xs) → suc (length (cond b xs (x ∷ ys))) ≡ suc (length xs)
if-shorter true x xs ys f = refl
if-shorter false x xs ys f = ap suc (f refl)

rest-of : (a b : Bool) → (a || b) ≡ true → a ≡ false → b ≡ true
rest-of true b e f = absurd (false≢true (sym f))
rest-of false b e f = e

shorter : (n : ℕ) (xs : List ℕ) → In n xs → suc (length (without n xs)) ≡ length xs
unfolding without
shorter n [] h = absurd (false≢true h)
shorter n (x ∷ xs) h = if-shorter (x == n) x xs (without n xs) (λ f. shorter n xs (rest-of (x == n) (list_any (λ y. y == n) xs) h f))

if-stays : (n m x : ℕ) (b : Bool) (xs ys : List ℕ) → (x == n) ≡ b → m ≢ n → In m (x ∷ xs) → (In m xs → In m ys) → In m (cond b xs (x ∷ ys))
if-stays n m x true xs ys e d h f = rest-of (x == m) (list_any (λ y. y == m) xs) h (ne_eqb x m (λ q. d (sym q ∙ eqb-true x n e)))
if-stays n m x false xs ys e d h f = elim (or_cases (x == m) (list_any (λ y. y == m) xs) h) [
  | inl a ↦ or_left (x == m) (list_any (λ y. y == m) ys) a
  | inr b ↦ or_right (x == m) (list_any (λ y. y == m) ys) (f b)
]

stays : (n m : ℕ) (xs : List ℕ) → m ≢ n → In m xs → In m (without n xs)
unfolding without
stays n m [] d h = absurd (false≢true h)
stays n m (x ∷ xs) d h = if-stays n m x (x == n) xs (without n xs) refl d h (stays n m xs d)

-- the numbers from i on are not all in a list that is too short
pub too-short : (n i : ℕ) (xs : List ℕ) → length xs < n → ((m : ℕ) → i ≤ m → m < i + n → In m xs) → ⊥
too-short zero i xs l h = omega (arith, l)
too-short (suc n) i xs l h =
    let a : In i xs = h i (omega arith) (omega arith) in
    let s = shorter i xs a in
    too-short n (suc i) (without i xs) (omega (arith, s, l)) (λ m p q. stays i m xs (λ e. omega (arith, e, p)) (h m (omega arith) (omega arith)))
